-- A hold has to be longer than a signal's way through all nodes, which are 63 at most: 64 d is
-- enough for them. Four nodes need a hold of 4 d. Here each signal takes one turn, and each node of
-- a ring of four holds its reset for three: a Reset runs round the ring for ever.
use Rattle.port_state.specs.Clock.{even}
use Rattle.std.proofs.Common.{◌≡◌, ℕ, ◌+◌, ◌<◌, true, false, List, [], ◌∷◌, map, min, refl, subst, sym, arith}
use Rattle.port_state.specs.declared.ports.PortView.{PortView}
use Rattle.port_state.specs.declared.signal.Level.{Level}
use Rattle.port_state.specs.declared.signal.Level.TheVariants as level
use Rattle.port_state.specs.declared.signal.Phase.{Phase}
use Rattle.port_state.specs.declared.signal.Phase.TheVariants.{ResetStart, ResetWait, TreeStart}
use Rattle.port_state.specs.declared.signal.Signal.{Signal}
use Rattle.port_state.specs.declared.signal.Signal.TheVariants as signal
use Rattle.port_state.specs.declared.timing.Timing.{Timing}
use Rattle.port_state.specs.Timing.{usual_timing}
use Rattle.port_state.specs.PowerOn.{power_on}
use Rattle.port_state.specs.Coins.{coins_of_bits}
use Rattle.port_state.specs.Entry.{enter}
use Rattle.port_state.specs.Heard.{on_signal}
use Rattle.port_state.specs.Tick.{tick}
use Rattle.port_state.specs.Machine.{PortNode}
use Rattle.cable_world.specs.Times.{Suits, CanBeForced, longest_in_range}
use Rattle.cable_world.specs.Wire.{Wire, empty_wire, add_signals}
use Rattle.cable_world.specs.World.{CableWorld, world_of_nodes}
use Rattle.cable_world.specs.Turn.{turn, turns_after}
use Rattle.cable_world.specs.Quiet.{quiet_after}
use Rattle.cable_world.proofs.worked.Summary.{attrs, at, after_plug}
use Rattle.cable_world.specs.Run.{ComesOf, starts}
use Rattle.cable_world.proofs.StaysReached.{all-turned}
use Rattle.cable_world.proofs.worked.ComesOf.{comes-plugged, comes-reset, after_reset}
use Rattle.cable_world.proofs.worked.NeverSettles.{NeverSettles, IsOpen, always, each_view, is_fresh, open-fresh, Below, below, comes-round}

-- ---- times that suit but for the hold

abbrev times : ℕ → Timing
times hold = record (usual_timing 1) { hold = hold }

suit-with-64 : Suits 1 (longest_in_range 1) (times 64)
suit-with-64 = record {
  counted = record { hold = omega arith; force = omega arith; timeout = omega arith; short = omega arith; long = omega arith };
  hold_least = omega arith;
  hold_most = omega arith;
  force_most = omega arith;
  timeout_most = omega arith;
  short_least = omega arith;
  short_most = omega arith;
  long_least = omega arith;
  long_most = omega arith;
}

unsuited : Suits 1 (longest_in_range 1) (times 3) → ⊥
unsuited s = let least = s.hold_least in omega (arith, least)

can-be-forced : CanBeForced 1 (longest_in_range 1) (times 3)
can-be-forced = record { enough = omega arith }

-- ---- the run

abbrev node : ℕ → PortNode
node hold = record { state = power_on 2 (attrs true 2 false) false (times hold); coins = coins_of_bits 0 1; clock = even }

abbrev bare : ℕ → CableWorld
bare hold = world_of_nodes 1 (node hold ∷ node hold ∷ node hold ∷ node hold ∷ [])

abbrev one : ℕ → CableWorld
one hold = after_plug (at 0 1) (at 1 0) (bare hold)

abbrev two : ℕ → CableWorld
two hold = after_plug (at 1 1) (at 2 0) (one hold)

abbrev three : ℕ → CableWorld
three hold = after_plug (at 2 1) (at 3 0) (two hold)

abbrev ring : ℕ → CableWorld
ring hold = after_plug (at 3 1) (at 0 0) (three hold)

-- When all have held their resets node 1 resets the bus. When it has held that, node 0 does: of its
-- neighbours node 3 is in its reset still, and node 1 isn't any more.
abbrev first : ℕ → CableWorld
first hold = after_reset 1 (turns_after hold (ring hold))

abbrev second : ℕ → CableWorld
second hold = after_reset 0 (turns_after hold (first hold))

comes : ComesOf (λ w. w ≡ bare 3) (turns_after 4 (second 3))
unfolding turn turns_after enter tick on_signal
comes =
    all-turned 4 (second 3) (comes-reset (turns_after 3 (first 3)) 0 refl
    (all-turned 3 (first 3) (comes-reset (turns_after 3 (ring 3)) 1 refl
    (all-turned 3 (ring 3) (comes-plugged (three 3) (at 3 1) (at 0 0) refl
    (comes-plugged (two 3) (at 2 1) (at 3 0) refl (comes-plugged (one 3) (at 1 1) (at 2 0) refl
    (comes-plugged (bare 3) (at 0 1) (at 1 0) refl (starts (bare 3) refl)))))))))

-- ---- it comes round

abbrev port_showing : Level → PortView
port_showing l = record { connected = true; shown = l; child = false; asked = false; named = false }

-- a node of the ring: its phase and timer, what its two ports show, and how many resets it has seen
abbrev node_in : Phase → ℕ → Level → Level → ℕ → PortNode
node_in phase timer before behind resets = record (node 3) {
  state = record (node 3).state {
    view = record (node 3).state.view {
      phase = phase;
      timer = timer;
      ports = port_showing before ∷ port_showing behind ∷ [];
      initiated = false;
      resets = resets;
    };
  };
}

abbrev wires_with : List Signal → List Wire
wires_with sent = add_signals sent empty_wire ∷ add_signals sent empty_wire ∷ []

-- The Reset has just come to node 0. So many turns are done, and so many resets were seen.
abbrev round : ℕ → ℕ → ℕ → ℕ → ℕ → CableWorld
round turns a b c d = record (ring 3) {
  nodes =
      node_in ResetStart 1 level.Reset level.Idle a ∷ node_in ResetWait 1 level.Idle level.Reset b ∷
      node_in ResetWait 0 level.Idle level.Reset c ∷ node_in ResetStart 2 level.Reset level.Idle d ∷ [];
  wires =
      wires_with (signal.Reset ∷ []) ∷ wires_with [] ∷ wires_with (signal.Idle ∷ []) ∷ wires_with [] ∷ [];
  turns = turns;
}

begins : turns_after 4 (second 3) ≡ round 10 6 5 5 5
unfolding turn turns_after enter tick on_signal
begins = refl

Start : CableWorld → Type 0
Start w = (t a b c d : ℕ) × (w ≡ round t a b c d)

-- four turns later it is so again, and each node has seen a reset more
again : (t a b c d : ℕ) → Start (quiet_after (always []) 4 (round t a b c d))
unfolding turn quiet_after enter tick on_signal Start
again t a b c d = (t + 1 + 1 + 1 + 1, min (a + 1) 4294967295, min (b + 1) 4294967295, min (c + 1) 4294967295, min (d + 1) 4294967295, refl)

turns-fresh :
    (t a b c d : ℕ) → Below 4 (λ i. each_view is_fresh (quiet_after (always []) i (round t a b c d)) ≡ true)
unfolding turn quiet_after enter tick on_signal
turns-fresh t a b c d = ((((tt, refl), refl), refl), refl)

opens : (t a b c d i : ℕ) → i < 4 → IsOpen (quiet_after (always []) i (round t a b c d))
opens t a b c d i l =
    open-fresh (quiet_after (always []) i (round t a b c d))
    (below 4 (λ j. each_view is_fresh (quiet_after (always []) j (round t a b c d)) ≡ true) i (turns-fresh t a b c d) l)

never : NeverSettles [] (turns_after 4 (second 3))
unfolding Start
never =
    comes-round [] Start 4 (omega arith) (λ w s. refl)
    (λ w s. subst (λ v. Start (quiet_after (always []) 4 v)) (sym s.5) (again s.0 s.1 s.2 s.3 s.4))
    (λ w i s l. subst (λ v. IsOpen (quiet_after (always []) i v)) (sym s.5) (opens s.0 s.1 s.2 s.3 s.4 i l))
    (turns_after 4 (second 3)) (10, 6, 5, 5, 5, begins)

-- ---- where each holds for a turn more

-- the Reset comes back to node 0 while that still holds its own, and dies
dies : map (λ (x : PortNode). x.state.view.phase) (turns_after 8 (second 4)).nodes ≡ TreeStart ∷ TreeStart ∷ TreeStart ∷ TreeStart ∷ []
unfolding turn turns_after enter tick on_signal
dies = refl
