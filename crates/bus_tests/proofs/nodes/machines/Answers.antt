use Rattle.std.proofs.Common.{◌≡◌, ◌∙◌, ℕ, ◌+◌, All, length, length-append, List, [], ◌∷◌, ◌++◌, arith, sym, subst, ap}
use Rattle.std.proofs.lemmas.List.Elements.{All-nil, All-push}
use Rattle.phy_machine.specs.declared.any.AnyMachine.{AnyMachine}
use Rattle.phy_machine.specs.Any.{any_node}
use Rattle.cable_world.specs.Times.{KeepsTime, longest_in_range}
use Rattle.cable_world.specs.World.{IsNodeAtPowerOn}
use Rattle.bus_tests.proofs.nodes.machines.Goals as goal

abbrev WasPoweredOn : ℕ → AnyMachine → Type 0
WasPoweredOn d m = IsNodeAtPowerOn d (any_node m).state

abbrev Ticks : ℕ → AnyMachine → Type 0
Ticks d m = KeepsTime (longest_in_range d) (any_node m).state.timing (any_node m).clock

-- one machine more
more : (P : AnyMachine → Type 0) (old new : List AnyMachine) (m : AnyMachine) → new ≡ old ++ m ∷ [] →
    All P old → P m → All P new
more P old new m e h on = subst (All P) (sym e) (All-push P old m h on)

longer : (old new : List AnyMachine) (m : AnyMachine) → new ≡ old ++ m ∷ [] →
    length new ≡ length old + 1
longer old new m e = ap length e ∙ length-append old (m ∷ [])

pub loop-node-init : goal.loop-node-init
loop-node-init c = record {
  powered = subst (All (WasPoweredOn c.args.d)) (sym c.new-made.ensures.items) (All-nil (WasPoweredOn c.args.d));
  clocks = subst (All (Ticks c.args.d)) (sym c.new-made.ensures.items) (All-nil (Ticks c.args.d));
  count = ap length c.new-made.ensures.items;
}

pub loop-node-preserved : goal.loop-node-preserved
loop-node-preserved c =
    let old = c.loop-node.made.items in
    let new = c.push.new.self.items in
    let made = c.powered_on.result in
    let e = c.in_ok-push.ensures.items in
    record {
      powered = more (WasPoweredOn c.args.d) old new made e c.loop-node.invariant.powered c.powered_on.ensures.node;
      clocks = more (Ticks c.args.d) old new made e c.loop-node.invariant.clocks c.powered_on.ensures.clock;
      count = longer old new made e ∙ ap (λ n. n + 1) c.loop-node.invariant.count;
    }

pub returns-clause-power_on : goal.returns-clause-power_on
returns-clause-power_on c = c.loop-node.invariant.powered

pub returns-clause-clocks : goal.returns-clause-clocks
returns-clause-clocks c = c.loop-node.invariant.clocks

pub returns-clause-length : goal.returns-clause-length
returns-clause-length c = omega (arith, c.loop-node.invariant.count, c.loop-node-test.false, c.loop-node.auto.node-index-end)
