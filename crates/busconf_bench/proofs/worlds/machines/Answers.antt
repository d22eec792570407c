use Rattle.std.proofs.Common.{◌∙◌, ◌+◌, [], ◌∷◌, All, length, length-append, ap, subst, sym}
use Rattle.std.proofs.lemmas.List.Elements.{All-push}
use Rattle.phy_machine.specs.declared.field.FieldMachine.{FieldMachine}
use Rattle.phy_machine.specs.Field.{field_node}
use Rattle.cable_world.specs.Times.{KeepsTime, longest_in_range}
use Rattle.cable_world.specs.World.{IsNodeAtPowerOn}
use Rattle.busconf_bench.proofs.worlds.machines.Goals as goal

abbrev WasPoweredOn : FieldMachine → Type 0
WasPoweredOn m = IsNodeAtPowerOn 4 (field_node m).state

abbrev Ticks : FieldMachine → Type 0
Ticks m = KeepsTime (longest_in_range 4) (field_node m).state.timing (field_node m).clock

pub loop-node-preserved : goal.loop-node-preserved
loop-node-preserved c =
    let old = c.loop-node.made.items in
    let e = c.in_ok-push.ensures.items in
    record {
      powered = subst (All WasPoweredOn) (sym e) (All-push WasPoweredOn old c.powered_on.result c.loop-node.invariant.powered c.powered_on.ensures.node);
      clocks = subst (All Ticks) (sym e) (All-push Ticks old c.powered_on.result c.loop-node.invariant.clocks c.powered_on.ensures.clock);
      count = ap length e ∙ length-append old (c.powered_on.result ∷ []) ∙ ap (λ n. n + 1) c.loop-node.invariant.count;
    }
