-- From the turn on after which nobody enters a reset, resets are done after the longest hold and d
-- turns.
use Rattle.std.specs.Prelude.{◌≡◌, ℕ, ◌+◌, ◌≤◌, false, Some, slice_get}
use Rattle.port_state.specs.Heard.{is_resetting}
use Rattle.port_state.specs.Machine.{PortNode}
use Rattle.cable_world.specs.World.{CableWorld, NodeNumber}
use Rattle.cable_world.specs.Quiet.{HoldSchedule, holds_after, quiet_after}
use Rattle.cable_world.specs.Lawful.{IsLawful}
use Rattle.convergence.specs.Milestones.{ResetsAreDone}
use Rattle.convergence.specs.Turns.{turns_to_over, done_turns}

-- with these holds no quiet turn makes a node enter R0
abbrev pub NeverEnters : HoldSchedule → CableWorld → Type 0
NeverEnters holds w =
    (k : ℕ) (node : NodeNumber) (x y : PortNode) →
    slice_get (quiet_after holds k w).nodes node ≡ Some x →
    slice_get (quiet_after holds (k + 1) w).nodes node ≡ Some y →
    is_resetting x.state.view.phase ≡ false → is_resetting y.state.view.phase ≡ false

-- ---- laws

-- so it is after n d quiet turns
abbrev pub EntriesEnd : Type 0
EntriesEnd =
    (holds : HoldSchedule) (w : CableWorld) (k : ℕ) → IsLawful w → turns_to_over w ≤ k →
    NeverEnters (holds_after k holds) (quiet_after holds k w)

-- and then so it stays
abbrev pub NoEntryStays : Type 0
NoEntryStays =
    (holds : HoldSchedule) (w : CableWorld) (k : ℕ) → NeverEnters holds w →
    NeverEnters (holds_after k holds) (quiet_after holds k w)

-- where it is so, no node is in R0 or R1 after as many turns as the longest hold, and d
abbrev pub DoneOnceNoneEnters : Type 0
DoneOnceNoneEnters =
    (holds : HoldSchedule) (w : CableWorld) (k : ℕ) → IsLawful w → NeverEnters holds w →
    done_turns w ≤ k → ResetsAreDone (quiet_after holds k w)
