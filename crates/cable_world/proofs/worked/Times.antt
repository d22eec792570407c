-- Times that barely suit a bus, and times that don't; and two nodes with such times. d is 1 here, and
-- the longest times are those in range.
use Rattle.port_state.specs.Clock.{even, IsRegular}
use Rattle.std.proofs.Common.{◌≡◌, ℕ, zero, suc, true, false, [], ◌∷◌, Some, map, slice_get, refl, sym, ap, subst, arith}
use Rattle.self_id.specs.Group.{group}
use Rattle.port_state.specs.declared.timing.Timing.{Timing}
use Rattle.port_state.specs.Coins.{coins_of_bits}
use Rattle.port_state.specs.Entry.{enter}
use Rattle.port_state.specs.Heard.{on_signal}
use Rattle.port_state.specs.PowerOn.{power_on}
use Rattle.port_state.specs.Tick.{tick}
use Rattle.port_state.specs.Machine.{PortNode}
use Rattle.port_state.proofs.Lemmas.{valid-power_on}
use Rattle.cable_world.specs.Times.{Suits, CanBeForced, longest_in_range}
use Rattle.cable_world.specs.World.{CableWorld, AllCanBeForced, IsPowered, world_with_times}
use Rattle.cable_world.specs.Turn.{turn, turns_after}
use Rattle.cable_world.specs.Run.{IsReached, starts}
use Rattle.cable_world.proofs.Options.{some-same}
use Rattle.cable_world.proofs.running.Start.{even-paced}
use Rattle.cable_world.proofs.Times.{in-range-counted}
use Rattle.cable_world.proofs.worked.Summary.{attrs, at, after_plug}
use Rattle.cable_world.proofs.worked.ComesOf.{comes-plugged}

-- the least that suits each of them
abbrev barely : Timing
barely = record { hold = 64; force = 144; timeout = 0; short = 3; long = 6 }

barely-suits : Suits 1 (longest_in_range 1) barely
barely-suits = record {
  counted = in-range-counted 1 (omega arith);
  hold_least = omega arith;
  hold_most = omega arith;
  force_most = omega arith;
  timeout_most = omega arith;
  short_least = omega arith;
  short_most = omega arith;
  long_least = omega arith;
  long_most = omega arith;
}

barely-forced : CanBeForced 1 (longest_in_range 1) barely
barely-forced = record { enough = omega arith }

-- one less is too little
too-short-a-hold : Suits 1 (longest_in_range 1) (record barely { hold = 63 }) → ⊥
too-short-a-hold s = omega (arith, s.hold_least)

too-short-a-wait : Suits 1 (longest_in_range 1) (record barely { short = 2 }) → ⊥
too-short-a-wait s = omega (arith, s.short_least)

waits-too-close : Suits 1 (longest_in_range 1) (record barely { long = 5 }) → ⊥
waits-too-close s = omega (arith, s.long_least)

too-short-to-be-forced : CanBeForced 1 (longest_in_range 1) (record barely { force = 143 }) → ⊥
too-short-to-be-forced c = omega (arith, c.enough)

-- and one more than the longest is too much
too-long-a-wait : Suits 1 (longest_in_range 1) (record barely { long = 11 }) → ⊥
too-long-a-wait s = omega (arith, s.long_most)

-- ---- two nodes with such times on one cable, of which the first draws 0 and the second 1

abbrev node : ℕ → PortNode
node coin = record { state = power_on 3 (attrs true 2 false) false barely; coins = coins_of_bits coin 1; clock = even }

abbrev alone : CableWorld
alone = world_with_times 1 (longest_in_range 1) (node 0 ∷ node 1 ∷ [])

abbrev start : CableWorld
start = after_plug (at 0 0) (at 1 0) alone

powered : (coin : ℕ) → IsPowered 1 (longest_in_range 1) (node coin).state
powered coin = record {
  is = refl;
  valid = valid-power_on 3 (attrs true 2 false) false barely (omega arith) (omega arith) (record { gap = omega arith; speed = omega arith; delay = omega arith; power = omega arith }) refl;
  timing = barely-suits;
}

each-powered : (k : ℕ) (x : PortNode) → slice_get alone.nodes k ≡ Some x → IsPowered 1 (longest_in_range 1) x.state
each-powered zero x e = subst (λ (z : PortNode). IsPowered 1 (longest_in_range 1) z.state) (some-same (node 0) x e) (powered 0)
each-powered (suc zero) x e = subst (λ (z : PortNode). IsPowered 1 (longest_in_range 1) z.state) (some-same (node 1) x e) (powered 1)
each-powered (suc (suc k)) x e = absurd cc

each-even : (k : ℕ) (x : PortNode) → slice_get alone.nodes k ≡ Some x → x.clock ≡ even
each-even zero x e = ap (λ (z : PortNode). z.clock) (sym (some-same (node 0) x e))
each-even (suc zero) x e = ap (λ (z : PortNode). z.clock) (sym (some-same (node 1) x e))
each-even (suc (suc k)) x e = absurd cc

each-forced : AllCanBeForced alone
each-forced zero x e = subst (λ (z : PortNode). CanBeForced 1 (longest_in_range 1) z.state.timing) (some-same (node 0) x e) barely-forced
each-forced (suc zero) x e = subst (λ (z : PortNode). CanBeForced 1 (longest_in_range 1) z.state.timing) (some-same (node 1) x e) barely-forced
each-forced (suc (suc k)) x e = absurd cc

start-reached : IsReached start
start-reached = comes-plugged alone (at 0 0) (at 1 0) refl (starts alone (
  record { some_delay = omega arith; few_nodes = omega arith; nodes = each-powered; clocks = even-paced (longest_in_range 1) alone.nodes each-even; is = refl },
  record { short_delay = omega arith; forced = each-forced; regular = λ k x e. subst IsRegular (sym (each-even k x e)) tt },
))

-- a hold of 64 turns, a long wait of 6, and the rest: the second is root
settled : map (λ (x : PortNode). x.state.view.id) (turns_after 81 start).nodes ≡ Some 0 ∷ Some 1 ∷ []
unfolding turn turns_after enter tick on_signal group
settled = refl
