-- A long wait has to be longer than any short one by a signal's way there and back. The cable of
-- two nodes delays by up to two turns. Node 0 always draws 1 and waits for nine turns, and node 1
-- always draws 0 and waits for eight. When node 0's wait is over, the Parent that node 1 sent at
-- the end of its own is still under way, so node 0 asks again too. They contend for ever, though
-- the two coins of a round are never equal.
use Rattle.port_state.specs.Clock.{even}
use Rattle.std.proofs.Common.{◌≡◌, ℕ, ◌+◌, ◌<◌, ◌≤◌, true, false, List, [], ◌∷◌, Some, map, min, refl, subst, sym, arith}
use Rattle.port_state.specs.declared.signal.Level.TheVariants as level
use Rattle.port_state.specs.declared.signal.Phase.{Phase}
use Rattle.port_state.specs.declared.signal.Phase.TheVariants.{ChildShake, ParentShake, Contend}
use Rattle.port_state.specs.declared.signal.Signal.TheVariants as signal
use Rattle.port_state.specs.declared.timing.Timing.{Timing}
use Rattle.port_state.specs.Timing.{usual_timing}
use Rattle.port_state.specs.PowerOn.{power_on}
use Rattle.port_state.specs.Coins.{coins_of_bits}
use Rattle.port_state.specs.Contention.{draws_with}
use Rattle.port_state.specs.Entry.{enter}
use Rattle.port_state.specs.Heard.{on_signal}
use Rattle.port_state.specs.Tick.{tick}
use Rattle.port_state.specs.Machine.{PortNode}
use Rattle.cable_world.specs.Times.{Suits, CanBeForced, longest_in_range}
use Rattle.cable_world.specs.Wire.{Wire, add_signals, empty_wire}
use Rattle.cable_world.specs.World.{CableWorld, world_of_nodes}
use Rattle.cable_world.specs.Turn.{turn, turns_after}
use Rattle.cable_world.specs.Act.{hold}
use Rattle.cable_world.specs.Quiet.{PlacedHold, with_holds, quiet_after}
use Rattle.cable_world.proofs.worked.Summary.{attrs, at, after_plug}
use Rattle.cable_world.specs.Run.{ComesOf, starts}
use Rattle.cable_world.proofs.StaysReached.{all-turned}
use Rattle.cable_world.proofs.worked.ComesOf.{comes-plugged, comes-held}
use Rattle.cable_world.proofs.worked.NeverSettles.{NeverSettles, IsOpen, always, each_view, is_unnamed, open-unnamed, first_draws, two-unlike, Below, below, comes-round, keeps-drawn}

-- ---- times that suit but for one long wait

abbrev times : ℕ → Timing
times long = record (usual_timing 2) { long = long }

suit-with-12 : Suits 2 (longest_in_range 2) (times 12)
suit-with-12 = record {
  counted = record { hold = omega arith; force = omega arith; timeout = omega arith; short = omega arith; long = omega arith };
  hold_least = omega arith;
  hold_most = omega arith;
  force_most = omega arith;
  timeout_most = omega arith;
  short_least = omega arith;
  short_most = omega arith;
  long_least = omega arith;
  long_most = omega arith;
}

unsuited : Suits 2 (longest_in_range 2) (times 9) → ⊥
unsuited s = let least = s.long_least in omega (arith, least)

can-be-forced : CanBeForced 2 (longest_in_range 2) (times 9)
can-be-forced = record { enough = omega arith }

-- the other's short wait is the longest of the bus
abbrev other_times : Timing
other_times = record (usual_timing 2) { short = 8 }

-- ---- the run

abbrev node : Timing → ℕ → PortNode
node t coin = record { state = power_on 1 (attrs true 2 false) false t; coins = coins_of_bits coin 1; clock = even }

abbrev bare : ℕ → CableWorld
bare long = world_of_nodes 2 (node (times long) 1 ∷ node other_times 0 ∷ [])

abbrev pair : ℕ → CableWorld
pair long = after_plug (at 0 0) (at 1 0) (bare long)

-- from the first contention on the wire that leaves node 1 is always held, so that each signal on
-- it takes two turns
abbrev slow : List PlacedHold
slow = record { end = at 1 0; turns = 1 } ∷ []

abbrev start : CableWorld
start = hold (at 1 0) 1 (turns_after 132 (pair 9))

comes : ComesOf (λ w. w ≡ bare 9) start
unfolding turn turns_after enter tick on_signal
comes =
    comes-held (turns_after 132 (pair 9)) (at 1 0) 1 refl
    (all-turned 132 (pair 9) (comes-plugged (bare 9) (at 0 0) (at 1 0) refl (starts (bare 9) refl)))

-- ---- each round is followed by another

-- a node that begins to wait: its wait, how many coins it drew, and which
abbrev waiting : PortNode → ℕ → ℕ → ℕ → PortNode
waiting x wait draws first = record x {
  state = record x.state {
    view = record x.state.view {
      phase = Contend;
      timer = 0;
      wait = wait;
      ports = record { connected = true; shown = level.Parent; child = false; asked = false; named = false } ∷ [];
      parent = Some 0;
      draws = draws;
      first_draws = first;
      resets = 2;
    };
  };
}

-- an Idle was just sent
abbrev idle_sent : Wire
idle_sent = add_signals (signal.Idle ∷ []) empty_wire

-- both begin to wait: so many turns are done, each drew so many coins, and node 0 these
abbrev rivals : ℕ → ℕ → ℕ → CableWorld
rivals t draws first = record (pair 9) {
  nodes = waiting (node (times 9) 1) 9 draws first ∷ waiting (node other_times 0) 8 draws 0 ∷ [];
  wires = (idle_sent ∷ []) ∷ (record idle_sent { held = 1 } ∷ []) ∷ [];
  turns = t;
}

begins : start ≡ rivals 132 1 1
unfolding turn turns_after enter tick on_signal
begins = refl

Start : CableWorld → Type 0
Start w = (t draws first : ℕ) × (1 ≤ first) × (w ≡ rivals t draws first)

-- ten turns later both begin to wait again, with a coin more
round : (t n f : ℕ) →
    quiet_after (always slow) 10 (rivals t n f) ≡
    rivals (t + 1 + 1 + 1 + 1 + 1 + 1 + 1 + 1 + 1 + 1) (min (n + 1) 65535) (draws_with true n f)
unfolding turn quiet_after enter tick on_signal
round t n f = refl

turns-open : (t n f : ℕ) → Below 10 (λ i.
    (each_view is_unnamed (quiet_after (always slow) i (rivals t n f)) ≡ true)
    × (first_draws (quiet_after (always slow) i (rivals t n f)) ≡ f ∷ 0 ∷ []))
unfolding turn quiet_after enter tick on_signal
turns-open t n f = ((((((((((tt, (refl, refl)), (refl, refl)), (refl, refl)), (refl, refl)), (refl, refl)), (refl, refl)), (refl, refl)), (refl, refl)), (refl, refl)), (refl, refl))

opens : (t n f i : ℕ) → 1 ≤ f → i < 10 → IsOpen (quiet_after (always slow) i (rivals t n f))
opens t n f i some l =
    let now = below 10 (λ j. (each_view is_unnamed (quiet_after (always slow) j (rivals t n f)) ≡ true) × (first_draws (quiet_after (always slow) j (rivals t n f)) ≡ f ∷ 0 ∷ [])) i (turns-open t n f) l in
    open-unnamed (quiet_after (always slow) i (rivals t n f)) now.0
    (two-unlike (quiet_after (always slow) i (rivals t n f)) f 0 now.1 (λ none. absurd (omega (arith, some, none))))

again : (t n f : ℕ) → 1 ≤ f → Start (quiet_after (always slow) 10 (rivals t n f))
unfolding Start
again t n f some = (t + 1 + 1 + 1 + 1 + 1 + 1 + 1 + 1 + 1 + 1, min (n + 1) 65535, draws_with true n f, keeps-drawn n f some, round t n f)

never : NeverSettles slow start
unfolding Start
never =
    comes-round slow Start 10 (omega arith) (λ w s. subst (λ v. with_holds slow v ≡ v) (sym s.4) refl)
    (λ w s. subst (λ v. Start (quiet_after (always slow) 10 v)) (sym s.4) (again s.0 s.1 s.2 s.3))
    (λ w i s l. subst (λ v. IsOpen (quiet_after (always slow) i v)) (sym s.4) (opens s.0 s.1 s.2 i s.3 l))
    start (132, 1, 1, omega arith, begins)

-- ---- where the long wait is a turn or two longer

-- Holds let node 0 begin its wait a turn before node 1. Two turns after the end of node 1's wait:
abbrev later : ℕ → CableWorld
later long = turns_after 2 (hold (at 1 0) 1 (turns_after 13 (hold (at 0 0) 5 (turns_after 128 (pair long)))))

abbrev phases : CableWorld → List Phase
phases w = map (λ (x : PortNode). x.state.view.phase) w.nodes

abbrev draws : CableWorld → List ℕ
draws w = map (λ (x : PortNode). x.state.view.draws) w.nodes

-- with ten turns node 0 has asked again a turn before it heard that node 1 did, and both have drawn
-- a second coin though the first ones aren't equal
once : (phases (later 10) ≡ Contend ∷ Contend ∷ []) × (draws (later 10) ≡ 2 ∷ 2 ∷ []) × (first_draws (later 10) ≡ 3 ∷ 0 ∷ [])
unfolding turn turns_after enter tick on_signal
once = (refl, refl, refl)

-- with eleven it has heard it in time, as a node hears what arrives before its clock ticks; the
-- inequality asks for twelve
wins : (phases (later 11) ≡ ChildShake ∷ ParentShake ∷ []) × (draws (later 11) ≡ 1 ∷ 1 ∷ [])
unfolding turn turns_after enter tick on_signal
wins = (refl, refl)
