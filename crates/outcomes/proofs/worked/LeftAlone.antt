-- Two nodes, one cable between them: the bus comes of power-on, it is left alone for 4393 turns, and
-- so it has settled.
use Rattle.std.proofs.Common.{◌≡◌, ℕ, zero, suc, true, false, None, Some, slice_get, refl, subst, arith}
use Rattle.convergence.specs.Turns.{turns_to_settle}
use Rattle.outcomes.proofs.Common.{enter, PortNode, IsPowerOnWorld, turns_after, act_fault, ComesOfPowerOn, some-same, attrs, at}
use Rattle.port_state.specs.Timing.{InRange, usual_timing}
use Rattle.port_state.proofs.Lemmas.{valid-power_on}
use Rattle.cable_world.specs.declared.act.Act.TheVariants.{Plug}
use Rattle.cable_world.specs.Times.{KeepsTime, longest_in_range}
use Rattle.cable_world.specs.World.{IsNodeAtPowerOn, world_of_nodes}
use Rattle.cable_world.specs.Run.{starts, acted}
use Rattle.cable_world.proofs.Lemmas.{plain_node}
use Rattle.cable_world.proofs.Lemmas as pair
use Rattle.outcomes.specs.Headline.{IsLeftAlone, AllSettled, EveryBusSettles}
use Rattle.cable_world.proofs.Lemmas.{powered-in-range}
use Rattle.outcomes.proofs.settled.LeftAlone.{left-alone}

usual : InRange 4 (usual_timing 4)
usual = record { hold_least = omega arith; hold_most = omega arith; force = refl; timeout = refl; short_least = omega arith; short_most = omega arith; long_least = omega arith; long_most = omega arith }

plain-on : (coin : ℕ) → IsNodeAtPowerOn 4 (plain_node coin).state
plain-on coin = record {
  is = refl;
  valid = valid-power_on 3 (attrs true 2 false) false (usual_timing 4) (omega arith) (omega arith) (record { gap = omega arith; speed = omega arith; delay = omega arith; power = omega arith }) refl;
  timing = usual;
}

powered : (k : ℕ) (x : PortNode) → slice_get pair.nodes k ≡ Some x → IsNodeAtPowerOn 4 x.state
powered zero x e = subst (λ (z : PortNode). IsNodeAtPowerOn 4 z.state) (some-same (plain_node 0) x e) (plain-on 0)
powered (suc zero) x e = subst (λ (z : PortNode). IsNodeAtPowerOn 4 z.state) (some-same (plain_node 1) x e) (plain-on 1)
powered (suc (suc k)) x e = absurd cc

clocked : (k : ℕ) (x : PortNode) → slice_get pair.nodes k ≡ Some x → KeepsTime (longest_in_range 4) x.state.timing x.clock
clocked zero x e = subst (λ (z : PortNode). KeepsTime (longest_in_range 4) z.state.timing z.clock) (some-same (plain_node 0) x e) tt
clocked (suc zero) x e = subst (λ (z : PortNode). KeepsTime (longest_in_range 4) z.state.timing z.clock) (some-same (plain_node 1) x e) tt
clocked (suc (suc k)) x e = absurd cc

at-first : IsPowerOnWorld (world_of_nodes 4 pair.nodes)
at-first = record { some_delay = omega arith; few_nodes = omega arith; nodes = λ k x e. powered-in-range 4 x.state (omega arith) (omega arith) (powered k x e); clocks = clocked; is = refl }

free : act_fault (Plug (at 0 0) (at 1 0)) (world_of_nodes 4 pair.nodes) ≡ None
free = refl

reached : ComesOfPowerOn pair.start
reached =
    acted (Plug (at 0 0) (at 1 0)) (world_of_nodes 4 pair.nodes) pair.start (tt, free, refl)
    (starts (world_of_nodes 4 pair.nodes) at-first)

enough : turns_to_settle pair.start ≡ 4393
unfolding enter
enough = refl

alone : IsLeftAlone pair.start (turns_after 4393 pair.start)
alone = left-alone pair.start 4393 (omega (arith, enough))

settled : EveryBusSettles → AllSettled (turns_after 4393 pair.start)
settled every = every pair.start (turns_after 4393 pair.start) reached alone
