-- A forced node that doesn't wait for long enough isn't root. In a line of three nodes each signal
-- takes one turn. Node 2, at one end, waits to be forced, and node 0, at the other, holds its reset
-- for 80 turns, the longest hold of the bus. The inequality asks that the hold and the force time
-- of node 2 are together more than 80 + 127 turns, which is enough for 63 nodes. Three nodes need
-- 80 + 4, since each of the two cables is passed twice.
use Rattle.port_state.specs.Clock.{even}
use Rattle.std.proofs.Common.{◌≡◌, ℕ, Bool, true, false, List, [], ◌∷◌, Option, Some, None, map, refl, arith}
use Rattle.port_state.specs.declared.timing.Timing.{Timing}
use Rattle.port_state.specs.Timing.{usual_timing}
use Rattle.port_state.specs.PowerOn.{power_on}
use Rattle.port_state.specs.Coins.{coins_of_bits}
use Rattle.cable_world.specs.Times.{Suits, CanBeForced, longest_in_range}
use Rattle.cable_world.specs.World.{world_of_nodes}
use Rattle.cable_world.specs.Act.{reset, note_changes}
use Rattle.cable_world.proofs.Lemmas.{after_plug}
use Rattle.outcomes.proofs.Common.{group, Phase, Ready, enter, on_signal, tick, PortNode, CableWorld, turn, turns_after, attrs, at, waits_due}

-- ---- times that suit, but aren't enough to be forced

abbrev times : ℕ → Timing
times force = record (usual_timing 1) { force = force }

suit : Suits 1 (longest_in_range 1) (times 18)
suit = record {
  counted = record { hold = omega arith; force = omega arith; timeout = omega arith; short = omega arith; long = omega arith };
  hold_least = omega arith;
  hold_most = omega arith;
  force_most = omega arith;
  timeout_most = omega arith;
  short_least = omega arith;
  short_most = omega arith;
  long_least = omega arith;
  long_most = omega arith;
}

not-enough : CanBeForced 1 (longest_in_range 1) (times 18) → ⊥
not-enough c = let enough = c.enough in omega (arith, enough)

enough-with-144 : CanBeForced 1 (longest_in_range 1) (times 144)
enough-with-144 = record { enough = omega arith }

-- ---- the run

abbrev node : ℕ → Timing → Bool → PortNode
node ports t force = record { state = power_on ports (attrs true 2 false) force t; coins = coins_of_bits 0 1; clock = even }

-- the end that waits has this force time; it resets the bus when it has settled
abbrev start : ℕ → CableWorld
start force =
    let bare = world_of_nodes 1 (node 1 (record (usual_timing 1) { hold = 80 }) false ∷ node 2 (usual_timing 1) false ∷ node 1 (times force) true ∷ []) in
    let settled = turns_after 400 (after_plug (at 1 1) (at 2 0) (after_plug (at 0 0) (at 1 0) bare)) in
    note_changes settled (reset 2 settled)

abbrev phases : CableWorld → List Phase
phases w = map (λ (x : PortNode). x.state.view.phase) w.nodes

abbrev parents : CableWorld → List (Option ℕ)
parents w = map (λ (x : PortNode). x.state.view.parent) w.nodes

-- it alone waits
alone : map (λ (x : PortNode). waits_due x.state.view) (start 18).nodes ≡ false ∷ false ∷ true ∷ []
unfolding turn turns_after enter tick on_signal group
alone = refl

-- with 64 + 18 turns it asks the middle before it hears that the middle asks it, and the middle is
-- root
too-short :
    (phases (turns_after 92 (start 18)) ≡ Ready ∷ Ready ∷ Ready ∷ [])
    × (parents (turns_after 92 (start 18)) ≡ Some 0 ∷ None ∷ Some 0 ∷ [])
unfolding turn turns_after enter tick on_signal group
too-short = (refl, refl)

-- with 64 + 20 turns it is root
long-enough :
    (phases (turns_after 94 (start 20)) ≡ Ready ∷ Ready ∷ Ready ∷ [])
    × (parents (turns_after 94 (start 20)) ≡ Some 0 ∷ Some 1 ∷ None ∷ [])
unfolding turn turns_after enter tick on_signal group
long-enough = (refl, refl)
