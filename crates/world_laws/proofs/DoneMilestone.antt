-- Where no quiet turn makes a node enter R0, holds end, and then waits: resets are done after the longest hold
-- and what is told then is seen.
use Rattle.std.proofs.Common.{◌≡◌, ℕ, ◌+◌, Some, slice_get, sym, ◌∙◌, ap, arith}
use Rattle.port_state.specs.Machine.{PortNode}
use Rattle.cable_world.specs.World.{CableWorld}
use Rattle.cable_world.specs.Quiet.{HoldSchedule, holds_after, quiet_after}
use Rattle.cable_world.proofs.Lemmas.{quiet-then}
use Rattle.convergence.proofs.Lemmas.{none-enters-done, steady-enters}
use Rattle.world_laws.specs.DoneMilestone.{NeverEnters, EntriesEnd, NoEntryStays, DoneOnceNoneEnters}

pub done-once-none : DoneOnceNoneEnters
done-once-none hs w i l none late = none-enters-done hs w l none i late

-- ---- nobody enters

pub entries-end : EntriesEnd
entries-end hs w k l late = steady-enters hs w k l late

-- a later turn of one schedule is a turn of the rest of it
later-turn :
    (hs : HoldSchedule) (w : CableWorld) (k i node : ℕ) (x : PortNode) →
    slice_get (quiet_after (holds_after k hs) i (quiet_after hs k w)).nodes node ≡ Some x →
    slice_get (quiet_after hs (k + i) w).nodes node ≡ Some x
later-turn hs w k i node x at = ap (λ (u : CableWorld). slice_get u.nodes node) (quiet-then hs k i w) ∙ at

one-later :
    (hs : HoldSchedule) (w : CableWorld) (k i node : ℕ) (y : PortNode) →
    slice_get (quiet_after (holds_after k hs) (i + 1) (quiet_after hs k w)).nodes node ≡ Some y →
    slice_get (quiet_after hs (k + i + 1) w).nodes node ≡ Some y
one-later hs w k i node y at =
    let z : k + i + 1 ≡ k + (i + 1) = omega arith in
    ap (λ n. slice_get (quiet_after hs n w).nodes node) z ∙ later-turn hs w k (i + 1) node y at

pub no-entry-stays : NoEntryStays
no-entry-stays hs w k none i node x y at_x at_y out =
    none (k + i) node x y (later-turn hs w k i node x at_x) (one-later hs w k i node y at_y) out
