use Rattle.std.proofs.Common.{◌∙◌, length, map, refl, ap, arith}
use Rattle.std.proofs.lemmas.List.{length-map}
use Rattle.port_state.specs.Config.{config_packet}
use Rattle.port_state.specs.Machine.{node_set_config}
use Rattle.cable_world.specs.World.{CableWorld}
use Rattle.cable_world.specs.Parts.{world_record}
use Rattle.cable_world.proofs.running.Acting.{told-length}
use Rattle.cable_world.proofs.running.Acts.{note-long, config-done, is-there, is-inside}
use Rattle.cable_world.proofs.running.Touched.{touched-all}
use Rattle.cable_world.proofs.acting.send_config.Goals as goal

pub step_node-requires-clause-suits : goal.step_node-requires-clause-suits
step_node-requires-clause-suits g c =
    let f = g.M.PortMachine.record_of in
    let told = map f c.set_configs.new.machines in
    let p = config_packet c.args.root_id c.args.force c.args.gap in
    is-there told c.args.from
    (omega (
      arith,
      c.if-from-machines.false,
      length-map c.args.machines.now f,
      ap length c.set_configs.ensures,
      told-length c.component.result (node_set_config p) 0 (map f c.args.machines.now),
    ))

pub returns-clause-ends : goal.returns-clause-ends
returns-clause-ends g c d t =
    let f = g.M.PortMachine.record_of in
    let w : CableWorld = world_record d t c.args.cabling.now (map f c.args.machines.now) c.args.wires.now c.args.changed.now c.args.turns in
    let after = c.step_node.new in
    let v : CableWorld = world_record d t c.args.cabling.now (map f after.machines) after.wires after.changed c.args.turns in
    let p = config_packet c.args.root_id c.args.force c.args.gap in
    let told = map f c.set_configs.new.machines in
    let set = c.component.result in
    record {
      accepted = is-inside c.args.from w (omega (arith, c.if-from-machines.false, length-map c.args.machines.now f));
      leads = (
        set,
        c.component.ensures.component,
        config-done w v set c.args.from p told c.set_configs.ensures (c.in_default.ensures.leads d t c.args.cabling.now),
      );
      rows =
          ap (λ (u : CableWorld). map length u.wires) (c.in_default.ensures.leads d t c.args.cabling.now)
          ∙ note-long c.args.from _ (world_record d t c.args.cabling.now told c.args.wires.now c.args.changed.now c.args.turns);
    }

pub returns-clause-touched : goal.returns-clause-touched
returns-clause-touched g c =
    let f = c.requires.lawful.2.well_formed in
    let many = length-map c.args.machines.now g.M.PortMachine.record_of in
    let nodes = c.set_configs.auto.machines in
    let after = c.step_node.auto.machines in
    touched-all _ _ _ _ _ _ c.first.ensures (omega (arith, nodes, after)) refl (omega (arith, nodes, after, many, f.count, f.wire_rows))
    (omega (arith, nodes, after, many, f.count, f.wire_rows, c.step_node.auto.wires))
