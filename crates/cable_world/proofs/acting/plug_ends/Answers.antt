use Rattle.std.proofs.Common.{◌∙◌, List, None, length, map, refl, ap, arith}
use Rattle.std.proofs.lemmas.List.{length-map}
use Rattle.cabling.proofs.Lemmas.{plugged}
use Rattle.cable_world.specs.Wire.{Wire}
use Rattle.cable_world.specs.World.{CableWorld}
use Rattle.cable_world.specs.Parts.{world_record}
use Rattle.cable_world.proofs.Options.{some-at}
use Rattle.cable_world.proofs.tables.TablesInActs.{has-wire}
use Rattle.cable_world.proofs.running.Acts.{was-there, added-is, node-ready, both-long, cleared-long, plug-done}
use Rattle.cable_world.proofs.running.Touched.{touched-both}
use Rattle.cable_world.proofs.acting.plug_ends.Goals as goal

pub clear_cable-requires-clause-a_port : goal.clear_cable-requires-clause-a_port
clear_cable-requires-clause-a_port g c =
    let w = world_record c.requires.lawful.0 c.requires.lawful.1 c.args.cabling.now (map g.M.PortMachine.record_of c.args.machines.now) c.args.wires.now c.args.changed.now c.args.turns in
    let added = c.in_default.ensures.added in
    (has-wire w c.args.a c.requires.lawful.2.well_formed
    (was-there c.args.cabling.now c.plug.new.self c.args.a c.args.b c.args.a added.others (plugged c.plug.new.self c.args.a c.args.b added.joined))).port

pub clear_cable-requires-clause-b_port : goal.clear_cable-requires-clause-b_port
clear_cable-requires-clause-b_port g c =
    let w = world_record c.requires.lawful.0 c.requires.lawful.1 c.args.cabling.now (map g.M.PortMachine.record_of c.args.machines.now) c.args.wires.now c.args.changed.now c.args.turns in
    let added = c.in_default.ensures.added in
    (has-wire w c.args.b c.requires.lawful.2.well_formed
    (was-there c.args.cabling.now c.plug.new.self c.args.a c.args.b c.args.b added.others (plugged c.plug.new.self c.args.b c.args.a added.back))).port

pub step_both-requires-clause-first_suits : goal.step_both-requires-clause-first_suits
step_both-requires-clause-first_suits g c =
    let w = world_record c.requires.lawful.0 c.requires.lawful.1 c.args.cabling.now (map g.M.PortMachine.record_of c.args.machines.now) c.args.wires.now c.args.changed.now c.args.turns in
    let added = c.in_default.ensures.added in
    let there = was-there c.args.cabling.now c.plug.new.self c.args.a c.args.b c.args.a added.others (plugged c.plug.new.self c.args.a c.args.b added.joined) in
    let x = node-ready w c.args.a None c.requires.lawful.2.well_formed there added.free_a in
    some-at _ x.0 _ x.1 (x.2, x.3)

pub step_both-requires-clause-second_suits : goal.step_both-requires-clause-second_suits
step_both-requires-clause-second_suits g c =
    let w = world_record c.requires.lawful.0 c.requires.lawful.1 c.args.cabling.now (map g.M.PortMachine.record_of c.args.machines.now) c.args.wires.now c.args.changed.now c.args.turns in
    let added = c.in_default.ensures.added in
    let there = was-there c.args.cabling.now c.plug.new.self c.args.a c.args.b c.args.b added.others (plugged c.plug.new.self c.args.b c.args.a added.back) in
    let x = node-ready w c.args.b None c.requires.lawful.2.well_formed there added.free_b in
    some-at _ x.0 _ x.1 (x.2, x.3)

pub returns-clause-ends : goal.returns-clause-ends
returns-clause-ends g c d t =
    let f = g.M.PortMachine.record_of in
    let w : CableWorld = world_record d t c.args.cabling.now (map f c.args.machines.now) c.args.wires.now c.args.changed.now c.args.turns in
    let a = c.args.a in
    let b = c.args.b in
    let v : CableWorld = world_record d t c.plug.new.self (map f c.step_both.new.machines) c.step_both.new.wires c.step_both.new.changed c.args.turns in
    let added = c.in_default.ensures.added in
    record {
      accepted = c.in_default.ensures.ok.0 refl;
      leads = plug-done w v a b c.plug.new.self c.clear_cable.new.wires (added-is c.args.cabling.now c.plug.new.self a b added)
          c.clear_cable.ensures.done (c.in_default-step_both.ensures.leads d t c.plug.new.self);
      rows =
          ap (λ (u : CableWorld). map length u.wires) (c.in_default-step_both.ensures.leads d t c.plug.new.self)
          ∙ both-long a.node b.node _ _ (world_record d t c.plug.new.self (map f c.args.machines.now) c.clear_cable.new.wires c.args.changed.now c.args.turns)
          ∙ ap (λ (rows : List (List Wire)). map length rows) c.clear_cable.ensures.done ∙ cleared-long c.args.wires.now a b;
    }

pub both-requires-clause-a : goal.both-requires-clause-a
both-requires-clause-a g c =
    let added = c.in_default.ensures.added in
    let there = was-there c.args.cabling.now c.plug.new.self c.args.a c.args.b c.args.a added.others (plugged c.plug.new.self c.args.a c.args.b added.joined) in
    omega (arith, there.node, c.requires.lawful.2.well_formed.cabling.few_nodes)

pub both-requires-clause-b : goal.both-requires-clause-b
both-requires-clause-b g c =
    let added = c.in_default.ensures.added in
    let there = was-there c.args.cabling.now c.plug.new.self c.args.a c.args.b c.args.b added.others (plugged c.plug.new.self c.args.b c.args.a added.back) in
    omega (arith, there.node, c.requires.lawful.2.well_formed.cabling.few_nodes)

pub returns-clause-touched : goal.returns-clause-touched
returns-clause-touched g c =
    let f = c.requires.lawful.2.well_formed in
    let added = c.in_default.ensures.added in
    let many = length-map c.args.machines.now g.M.PortMachine.record_of in
    let a = was-there c.args.cabling.now c.plug.new.self c.args.a c.args.b c.args.a added.others (plugged c.plug.new.self c.args.a c.args.b added.joined) in
    let b = was-there c.args.cabling.now c.plug.new.self c.args.a c.args.b c.args.b added.others (plugged c.plug.new.self c.args.b c.args.a added.back) in
    touched-both _ _ _ _ _ _ _ _ c.both.ensures (omega (arith, a.node, f.count, many)) (omega (arith, b.node, f.count, many))
    c.in_default-step_both.ensures.machines c.clear_cable.ensures.others c.in_default-step_both.ensures.wires
