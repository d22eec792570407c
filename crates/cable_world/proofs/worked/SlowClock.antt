-- Two nodes on one cable, of which the second has a slower clock: it ticks a hundred times and
-- misses a turn, again and again. Its times are longer, in turns: so are the longest of the bus.
use Rattle.std.proofs.Common.{◌≡◌, ℕ, zero, suc, true, false, [], ◌∷◌, Some, slice_get, refl, map, subst, arith}
use Rattle.self_id.specs.Group.{group}
use Rattle.port_state.specs.declared.timing.Timing.{Timing}
use Rattle.port_state.specs.Timing.{usual_timing}
use Rattle.port_state.specs.Clock.{every}
use Rattle.port_state.specs.Entry.{enter}
use Rattle.port_state.specs.Heard.{on_signal}
use Rattle.port_state.specs.Tick.{tick}
use Rattle.port_state.specs.Machine.{PortNode}
use Rattle.port_state.proofs.Lemmas.{valid-power_on}
use Rattle.cable_world.specs.Times.{Suits, SuitsSlowly, KeepsTime, longest_in_range}
use Rattle.cable_world.specs.World.{CableWorld, IsPowered, IsPowerOnWorld, world_with_times}
use Rattle.cable_world.specs.Turn.{turn, turns_after}
use Rattle.cable_world.proofs.Options.{some-same}
use Rattle.cable_world.proofs.worked.Summary.{plain_node, attrs, at, after_plug}

abbrev longest : Timing
longest = record (longest_in_range 4) { force = 1057; timeout = 2113 }

abbrev slow_node : ℕ → PortNode
slow_node coin = record (plain_node coin) { clock = every 100 100 }

abbrev alone : CableWorld
alone = world_with_times 4 longest (plain_node 0 ∷ slow_node 1 ∷ [])

abbrev start : CableWorld
start = after_plug (at 0 0) (at 1 0) alone

-- ---- it is a power-on world

suits : Suits 4 longest (usual_timing 4)
suits = record {
  counted = record { hold = omega arith; force = omega arith; timeout = omega arith; short = omega arith; long = omega arith };
  hold_least = omega arith;
  hold_most = omega arith;
  force_most = omega arith;
  timeout_most = omega arith;
  short_least = omega arith;
  short_most = omega arith;
  long_least = omega arith;
  long_most = omega arith;
}

slowly : SuitsSlowly longest (usual_timing 4)
slowly = record { hold_most = omega arith; force_most = omega arith; timeout_most = omega arith; short_most = omega arith; long_most = omega arith }

keeps : (coin : ℕ) → KeepsTime longest (slow_node coin).state.timing (slow_node coin).clock
keeps coin = (omega arith, slowly)

-- with longest times that are a turn shorter it doesn't keep time, and with a clock that misses a turn more often
too-short-a-force :
    KeepsTime (record longest { force = 1056 }) (usual_timing 4) (every 100 100) → ⊥
too-short-a-force h = omega (arith, h.1.force_most)

too-short-a-wait : KeepsTime (record longest { short = 12 }) (usual_timing 4) (every 100 100) → ⊥
too-short-a-wait h = omega (arith, h.1.short_most)

too-short-a-long-wait : KeepsTime (record longest { long = 32 }) (usual_timing 4) (every 100 100) → ⊥
too-short-a-long-wait h = omega (arith, h.1.long_most)

too-often : KeepsTime longest (usual_timing 4) (every 31 100) → ⊥
too-often h = omega (arith, h.0)

powered : (coin : ℕ) → IsPowered 4 longest (plain_node coin).state
powered coin = record {
  is = refl;
  valid = valid-power_on 3 (attrs true 2 false) false (usual_timing 4) (omega arith) (omega arith) (record { gap = omega arith; speed = omega arith; delay = omega arith; power = omega arith }) refl;
  timing = suits;
}

each-powered : (k : ℕ) (x : PortNode) → slice_get alone.nodes k ≡ Some x → IsPowered 4 longest x.state
each-powered zero x e = subst (λ (z : PortNode). IsPowered 4 longest z.state) (some-same (plain_node 0) x e) (powered 0)
each-powered (suc zero) x e = subst (λ (z : PortNode). IsPowered 4 longest z.state) (some-same (slow_node 1) x e) (powered 1)
each-powered (suc (suc k)) x e = absurd cc

each-clock : (k : ℕ) (x : PortNode) → slice_get alone.nodes k ≡ Some x → KeepsTime longest x.state.timing x.clock
each-clock zero x e = subst (λ (z : PortNode). KeepsTime longest z.state.timing z.clock) (some-same (plain_node 0) x e) tt
each-clock (suc zero) x e = subst (λ (z : PortNode). KeepsTime longest z.state.timing z.clock) (some-same (slow_node 1) x e) (keeps 1)
each-clock (suc (suc k)) x e = absurd cc

powered-on : IsPowerOnWorld alone
powered-on = record { some_delay = omega arith; few_nodes = omega arith; nodes = each-powered; clocks = each-clock; is = refl }

-- ---- its run

-- two turns are missed until turn 255
timers : map (λ (x : PortNode). x.state.view.timer) (turns_after 255 start).nodes ≡ 255 ∷ 253 ∷ []
unfolding turn turns_after enter tick on_signal
timers = refl

-- the bus settles a few turns later than that of two equal clocks
ids : map (λ (x : PortNode). x.state.view.id) (turns_after 310 start).nodes ≡ Some 0 ∷ Some 1 ∷ []
unfolding turn turns_after enter tick on_signal group
ids = refl
