use Rattle.std.proofs.Common.{map}
use Rattle.std.proofs.lemmas.List.{length-map}
use Rattle.cable_world.specs.Still.{hold_less}
use Rattle.world_agenda.proofs.Blend.{blend-start, blend-end}
use Rattle.world_agenda.proofs.LiveRows.{row-passes}
use Rattle.world_agenda.proofs.live.pass_live.Goals as goal

pub loop-node-init : goal.loop-node-init
loop-node-init c =
    let old = c.args.wires.now in
    record {
      left = λ k has. has;
      wires = blend-start c.args.live (map (map (hold_less c.args.turns)) old) old (row-passes c.args.turns c.args.live old c.requires.rest);
    }

pub returns : goal.returns
returns c =
    let old = c.args.wires.now in
    let less = map (hold_less c.args.turns) in
    blend-end c.loop-node.left (map less old) old c.loop-node.wires c.in_default.ensures.none (length-map old less) c.loop-node.invariant.wires
