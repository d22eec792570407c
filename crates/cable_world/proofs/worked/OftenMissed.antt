-- A clock that misses turns too often. The cable of two nodes delays by one turn. Node 0 always draws 1
-- and waits for eight turns; node 1 always draws 0 and waits for five ticks. All times suit such a bus,
-- with a long wait that is longer than any short one in turns. But the clock of node 1 misses every
-- third turn, three of them in each of its waits, and so these are eight turns long too. They contend
-- for ever, though the two coins of a round are never equal.
use Rattle.std.proofs.Common.{◌≡◌, ℕ, ◌+◌, ◌<◌, ◌≤◌, true, false, List, [], ◌∷◌, Some, map, min, refl, subst, sym, arith}
use Rattle.self_id.specs.Group.{group}
use Rattle.port_state.specs.declared.signal.Level.TheVariants as level
use Rattle.port_state.specs.declared.signal.Phase.TheVariants.{Contend}
use Rattle.port_state.specs.declared.signal.Signal.TheVariants as signal
use Rattle.port_state.specs.declared.timing.Timing.{Timing}
use Rattle.port_state.specs.Timing.{usual_timing}
use Rattle.port_state.specs.PowerOn.{power_on}
use Rattle.port_state.specs.Coins.{coins_of_bits}
use Rattle.port_state.specs.Contention.{draws_with}
use Rattle.port_state.specs.Clock.{Clock, even, every, KeepsPace}
use Rattle.port_state.specs.Entry.{enter}
use Rattle.port_state.specs.Heard.{on_signal}
use Rattle.port_state.specs.Tick.{tick}
use Rattle.port_state.specs.Machine.{PortNode}
use Rattle.cable_world.specs.Times.{Suits, SuitsSlowly, longest_in_range}
use Rattle.cable_world.specs.Wire.{Wire, add_signals, empty_wire}
use Rattle.cable_world.specs.World.{CableWorld, world_with_times}
use Rattle.cable_world.specs.Turn.{turn, turns_after}
use Rattle.cable_world.specs.Quiet.{PlacedHold, with_holds, quiet_after}
use Rattle.cable_world.proofs.worked.Summary.{attrs, at, after_plug}
use Rattle.cable_world.specs.Run.{ComesOf, starts}
use Rattle.cable_world.proofs.StaysReached.{all-turned}
use Rattle.cable_world.proofs.worked.ComesOf.{comes-plugged}
use Rattle.cable_world.proofs.worked.NeverSettles.{NeverSettles, IsOpen, always, each_view, is_unnamed, open-unnamed, first_draws, two-unlike, Below, below, comes-round, keeps-drawn}

-- ---- times that suit, also with a clock that misses turns

abbrev times : Timing
times = record (usual_timing 1) { short = 5 }

abbrev longest : Timing
longest = record (longest_in_range 1) { force = 289; timeout = 577; short = 6 }

suit : Suits 1 longest times
suit = record {
  counted = record { hold = omega arith; force = omega arith; timeout = omega arith; short = omega arith; long = omega arith };
  hold_least = omega arith;
  hold_most = omega arith;
  force_most = omega arith;
  timeout_most = omega arith;
  short_least = omega arith;
  short_most = omega arith;
  long_least = omega arith;
  long_most = omega arith;
}

slowly : SuitsSlowly longest times
slowly = record { hold_most = omega arith; force_most = omega arith; timeout_most = omega arith; short_most = omega arith; long_most = omega arith }

-- but it doesn't keep the pace: between two turns that it misses it ticks twice, and not eight times
too-often : KeepsPace times.long (every 2 68) → ⊥
too-often h = omega (arith, h)

-- ---- the run

abbrev node : ℕ → Clock → PortNode
node coin clock = record { state = power_on 1 (attrs true 2 false) false times; coins = coins_of_bits coin 1; clock = clock }

abbrev bare : CableWorld
bare = world_with_times 1 longest (node 1 even ∷ node 0 (every 2 68) ∷ [])

abbrev pair : CableWorld
pair = after_plug (at 0 0) (at 1 0) bare

-- the first contention
abbrev start : CableWorld
start = turns_after 68 pair

comes : ComesOf (λ w. w ≡ bare) start
comes = all-turned 68 pair (comes-plugged bare (at 0 0) (at 1 0) refl (starts bare refl))

-- ---- each round is followed by another

abbrev none : List PlacedHold
none = []

-- a node that begins to wait: its wait, how many coins it drew, and which
abbrev waiting : PortNode → ℕ → ℕ → ℕ → PortNode
waiting x wait draws first = record x {
  state = record x.state {
    view = record x.state.view {
      phase = Contend;
      timer = 0;
      wait = wait;
      ports = record { connected = true; shown = level.Parent; child = false; asked = false; named = false } ∷ [];
      parent = Some 0;
      draws = draws;
      first_draws = first;
      resets = 2;
    };
  };
}

-- an Idle was just sent
abbrev idle_sent : Wire
idle_sent = add_signals (signal.Idle ∷ []) empty_wire

-- both begin to wait: so many turns are done, each drew so many coins, and node 0 these; the clock of
-- node 1 misses the next turn
abbrev rivals : ℕ → ℕ → ℕ → CableWorld
rivals t draws first = record pair {
  nodes = waiting (node 1 even) 8 draws first ∷ waiting (node 0 (every 2 0)) 5 draws 0 ∷ [];
  wires = (idle_sent ∷ []) ∷ (idle_sent ∷ []) ∷ [];
  turns = t;
}

begins : start ≡ rivals 68 1 1
unfolding turn turns_after enter tick on_signal
begins = refl

Start : CableWorld → Type 0
Start w = (t draws first : ℕ) × (1 ≤ first) × (w ≡ rivals t draws first)

-- nine turns later both begin to wait again, with a coin more
round : (t n f : ℕ) →
    quiet_after (always none) 9 (rivals t n f) ≡
    rivals (t + 1 + 1 + 1 + 1 + 1 + 1 + 1 + 1 + 1) (min (n + 1) 65535) (draws_with true n f)
unfolding turn quiet_after enter tick on_signal
round t n f = refl

turns-open : (t n f : ℕ) → Below 9 (λ i.
    (each_view is_unnamed (quiet_after (always none) i (rivals t n f)) ≡ true)
    × (first_draws (quiet_after (always none) i (rivals t n f)) ≡ f ∷ 0 ∷ []))
unfolding turn quiet_after enter tick on_signal
turns-open t n f = (((((((((tt, (refl, refl)), (refl, refl)), (refl, refl)), (refl, refl)), (refl, refl)), (refl, refl)), (refl, refl)), (refl, refl)), (refl, refl))

opens : (t n f i : ℕ) → 1 ≤ f → i < 9 → IsOpen (quiet_after (always none) i (rivals t n f))
opens t n f i some l =
    let now = below 9 (λ j. (each_view is_unnamed (quiet_after (always none) j (rivals t n f)) ≡ true) × (first_draws (quiet_after (always none) j (rivals t n f)) ≡ f ∷ 0 ∷ [])) i (turns-open t n f) l in
    open-unnamed (quiet_after (always none) i (rivals t n f)) now.0
    (two-unlike (quiet_after (always none) i (rivals t n f)) f 0 now.1 (λ same. absurd (omega (arith, some, same))))

again : (t n f : ℕ) → 1 ≤ f → Start (quiet_after (always none) 9 (rivals t n f))
unfolding Start
again t n f some = (t + 1 + 1 + 1 + 1 + 1 + 1 + 1 + 1 + 1, min (n + 1) 65535, draws_with true n f, keeps-drawn n f some, round t n f)

never : NeverSettles none start
unfolding Start
never =
    comes-round none Start 9 (omega arith) (λ w s. refl)
    (λ w s. subst (λ v. Start (quiet_after (always none) 9 v)) (sym s.4) (again s.0 s.1 s.2 s.3))
    (λ w i s l. subst (λ v. IsOpen (quiet_after (always none) i v)) (sym s.4) (opens s.0 s.1 s.2 i s.3 l))
    start (68, 1, 1, omega arith, begins)

-- ---- a clock that keeps the pace

abbrev ids : Clock → CableWorld
ids clock = turns_after 90 (after_plug (at 0 0) (at 1 0) (world_with_times 1 longest (node 1 even ∷ node 0 clock ∷ [])))

-- with eight ticks between two turns that it misses the first coins decide
decided :
    (map (λ (x : PortNode). x.state.view.draws) (ids (every 8 68)).nodes ≡ 1 ∷ 1 ∷ [])
    × (map (λ (x : PortNode). x.state.view.id) (ids (every 8 68)).nodes ≡ Some 1 ∷ Some 0 ∷ [])
unfolding turn turns_after enter tick on_signal group
decided = (refl, refl)
