use Rattle.std.proofs.Common.{◌∙◌, List, Some, length, map, refl, ap, arith}
use Rattle.std.proofs.lemmas.List.{length-map}
use Rattle.cabling.proofs.Lemmas.{plugged}
use Rattle.cable_world.specs.Wire.{Wire}
use Rattle.cable_world.specs.World.{CableWorld}
use Rattle.cable_world.specs.Parts.{world_record}
use Rattle.cable_world.proofs.Options.{some-at}
use Rattle.cable_world.proofs.tables.TablesInActs.{has-wire}
use Rattle.cable_world.proofs.running.Acts.{taken-is, node-ready, both-long, cleared-long, pull-done}
use Rattle.cable_world.proofs.running.Touched.{touched-both}
use Rattle.cable_world.proofs.acting.pull_end.Goals as goal

pub clear_cable-requires-clause-a_port : goal.clear_cable-requires-clause-a_port
clear_cable-requires-clause-a_port g c =
    let w = world_record c.requires.lawful.0 c.requires.lawful.1 c.args.cabling.now (map g.M.PortMachine.record_of c.args.machines.now) c.args.wires.now c.args.changed.now c.args.turns in
    (has-wire w c.args.end c.requires.lawful.2.well_formed (plugged c.args.cabling.now c.args.end c.in-Ok.cable.b c.in-Ok.ensures.taken.joined)).port

pub clear_cable-requires-clause-b_node : goal.clear_cable-requires-clause-b_node
clear_cable-requires-clause-b_node g c =
    let w = world_record c.requires.lawful.0 c.requires.lawful.1 c.args.cabling.now (map g.M.PortMachine.record_of c.args.machines.now) c.args.wires.now c.args.changed.now c.args.turns in
    let f = c.requires.lawful.2.well_formed in
    (has-wire w c.in-Ok.cable.b f
    (plugged c.args.cabling.now c.in-Ok.cable.b c.args.end (f.cabling.both_ways c.args.end c.in-Ok.cable.b c.in-Ok.ensures.taken.joined))).node

pub clear_cable-requires-clause-b_port : goal.clear_cable-requires-clause-b_port
clear_cable-requires-clause-b_port g c =
    let w = world_record c.requires.lawful.0 c.requires.lawful.1 c.args.cabling.now (map g.M.PortMachine.record_of c.args.machines.now) c.args.wires.now c.args.changed.now c.args.turns in
    let f = c.requires.lawful.2.well_formed in
    (has-wire w c.in-Ok.cable.b f
    (plugged c.args.cabling.now c.in-Ok.cable.b c.args.end (f.cabling.both_ways c.args.end c.in-Ok.cable.b c.in-Ok.ensures.taken.joined))).port

pub step_both-requires-clause-second : goal.step_both-requires-clause-second
step_both-requires-clause-second g c =
    let f = c.requires.lawful.2.well_formed in
    let there = plugged c.args.cabling.now c.in-Ok.cable.b c.args.end (f.cabling.both_ways c.args.end c.in-Ok.cable.b c.in-Ok.ensures.taken.joined) in
    omega (arith, there.node, f.count, length-map c.args.machines.now g.M.PortMachine.record_of)

pub step_both-requires-clause-first_suits : goal.step_both-requires-clause-first_suits
step_both-requires-clause-first_suits g c =
    let w = world_record c.requires.lawful.0 c.requires.lawful.1 c.args.cabling.now (map g.M.PortMachine.record_of c.args.machines.now) c.args.wires.now c.args.changed.now c.args.turns in
    let f = c.requires.lawful.2.well_formed in
    let joined = c.in-Ok.ensures.taken.joined in
    let a = c.args.end in
    let b = c.in-Ok.cable.b in
    let x = node-ready w a (Some b) f (plugged c.args.cabling.now a b joined) joined in
    some-at _ x.0 _ x.1 x.3

pub step_both-requires-clause-second_suits : goal.step_both-requires-clause-second_suits
step_both-requires-clause-second_suits g c =
    let w = world_record c.requires.lawful.0 c.requires.lawful.1 c.args.cabling.now (map g.M.PortMachine.record_of c.args.machines.now) c.args.wires.now c.args.changed.now c.args.turns in
    let f = c.requires.lawful.2.well_formed in
    let a = c.args.end in
    let b = c.in-Ok.cable.b in
    let back = f.cabling.both_ways a b c.in-Ok.ensures.taken.joined in
    let x = node-ready w b (Some a) f (plugged c.args.cabling.now b a back) back in
    some-at _ x.0 _ x.1 x.3

pub returns-clause-ends : goal.returns-clause-ends
returns-clause-ends g c d t =
    let f = g.M.PortMachine.record_of in
    let w : CableWorld = world_record d t c.args.cabling.now (map f c.args.machines.now) c.args.wires.now c.args.changed.now c.args.turns in
    let a = c.args.end in
    let b = c.in-Ok.cable.b in
    let taken = c.in-Ok.ensures.taken in
    let after = c.step_both.new in
    let v : CableWorld = world_record d t c.pull.new.self (map f after.machines) after.wires after.changed c.args.turns in
    record {
      accepted = c.in-Ok.ensures.ok.0 refl;
      leads = pull-done w v a b c.pull.new.self c.clear_cable.new.wires taken.joined
          (taken-is c.args.cabling.now c.pull.new.self a b c.requires.lawful.2.well_formed.cabling taken)
          c.clear_cable.ensures.done (c.in_default.ensures.leads d t c.pull.new.self);
      rows =
          ap (λ (u : CableWorld). map length u.wires) (c.in_default.ensures.leads d t c.pull.new.self)
          ∙ both-long a.node b.node _ _ (world_record d t c.pull.new.self (map f c.args.machines.now) c.clear_cable.new.wires c.args.changed.now c.args.turns)
          ∙ ap (λ (rows : List (List Wire)). map length rows) c.clear_cable.ensures.done ∙ cleared-long c.args.wires.now a b;
    }

pub both-requires-clause-a : goal.both-requires-clause-a
both-requires-clause-a g c =
    let there = plugged c.args.cabling.now c.args.end c.in-Ok.cable.b c.in-Ok.ensures.taken.joined in
    omega (arith, there.node, c.requires.lawful.2.well_formed.cabling.few_nodes)

pub both-requires-clause-b : goal.both-requires-clause-b
both-requires-clause-b g c =
    let f = c.requires.lawful.2.well_formed in
    let there = plugged c.args.cabling.now c.in-Ok.cable.b c.args.end (f.cabling.both_ways c.args.end c.in-Ok.cable.b c.in-Ok.ensures.taken.joined) in
    omega (arith, there.node, f.cabling.few_nodes)

pub returns-clause-touched : goal.returns-clause-touched
returns-clause-touched g c =
    let f = c.requires.lawful.2.well_formed in
    let many = length-map c.args.machines.now g.M.PortMachine.record_of in
    let joined = c.in-Ok.ensures.taken.joined in
    let a = plugged c.args.cabling.now c.args.end c.in-Ok.cable.b joined in
    let b = plugged c.args.cabling.now c.in-Ok.cable.b c.args.end (f.cabling.both_ways c.args.end c.in-Ok.cable.b joined) in
    touched-both _ _ _ _ _ _ _ _ c.both.ensures (omega (arith, a.node, f.count, many)) (omega (arith, b.node, f.count, many))
    c.in_default.ensures.machines c.clear_cable.ensures.others c.in_default.ensures.wires
