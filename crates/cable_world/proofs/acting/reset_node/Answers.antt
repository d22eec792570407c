use Rattle.std.proofs.Common.{◌∙◌, length, map, ap, arith}
use Rattle.std.proofs.lemmas.List.{length-map}
use Rattle.cable_world.specs.World.{CableWorld}
use Rattle.cable_world.specs.Parts.{world_record}
use Rattle.cable_world.proofs.running.Acts.{note-long, is-there, is-inside}
use Rattle.cable_world.proofs.running.Touched.{touched-one}
use Rattle.cable_world.proofs.acting.reset_node.Goals as goal

pub step_node-requires-clause-suits : goal.step_node-requires-clause-suits
step_node-requires-clause-suits g c =
    let f = g.M.PortMachine.record_of in
    is-there (map f c.args.machines.now) c.args.node (omega (arith, c.if-node-machines.false, length-map c.args.machines.now f))

pub returns-clause-ends : goal.returns-clause-ends
returns-clause-ends g c cabling d t =
    let w : CableWorld = world_record d t cabling (map g.M.PortMachine.record_of c.args.machines.now) c.args.wires.now c.args.changed.now c.args.turns in
    record {
      accepted = is-inside c.args.node w (omega (arith, c.if-node-machines.false, length-map c.args.machines.now g.M.PortMachine.record_of));
      leads = c.in_default.ensures.leads d t cabling;
      rows = ap (λ (v : CableWorld). map length v.wires) (c.in_default.ensures.leads d t cabling) ∙ note-long c.args.node _ w;
    }

pub returns-clause-touched : goal.returns-clause-touched
returns-clause-touched g c =
    touched-one _ _ _ _ _ _ c.both.ensures c.if-node-machines.false c.in_default.ensures.machines c.in_default.ensures.wires
