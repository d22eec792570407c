use Rattle.std.proofs.Common.{map, refl}
use Rattle.cable_world.specs.declared.act.Act.TheVariants.{Plug, Pull, Reset, Config}
use Rattle.cable_world.specs.Parts.{world_record}
use Rattle.cable_world.proofs.running.Acts.{ends-of}
use Rattle.cable_world.proofs.acting.do_act.Goals as goal

pub returns-in-Plug-clause-ends : goal.returns-in-Plug-clause-ends
returns-in-Plug-clause-ends g c =
    let f = g.M.PortMachine.record_of in
    ends-of c.args.act.now (Plug c.in-Plug.a c.in-Plug.b)
    (λ d t. world_record d t c.args.cabling.now (map f c.args.machines.now) c.args.wires.now c.args.changed.now c.args.turns)
    (λ d t. world_record d t c.plug_ends.new.cabling (map f c.plug_ends.new.machines) c.plug_ends.new.wires c.plug_ends.new.changed c.args.turns)
    _ _ c.plug_ends.result c.in-Plug.is (λ k. k) c.plug_ends.ensures.ends

pub returns-in-Pull-clause-ends : goal.returns-in-Pull-clause-ends
returns-in-Pull-clause-ends g c =
    let f = g.M.PortMachine.record_of in
    ends-of c.args.act.now (Pull c.in-Pull.end)
    (λ d t. world_record d t c.args.cabling.now (map f c.args.machines.now) c.args.wires.now c.args.changed.now c.args.turns)
    (λ d t. world_record d t c.pull_end.new.cabling (map f c.pull_end.new.machines) c.pull_end.new.wires c.pull_end.new.changed c.args.turns)
    _ _ c.pull_end.result c.in-Pull.is (λ k. k) c.pull_end.ensures.ends

pub returns-in-Reset-clause-ends : goal.returns-in-Reset-clause-ends
returns-in-Reset-clause-ends g c =
    let f = g.M.PortMachine.record_of in
    ends-of c.args.act.now (Reset c.in-Reset.node)
    (λ d t. world_record d t c.args.cabling.now (map f c.args.machines.now) c.args.wires.now c.args.changed.now c.args.turns)
    (λ d t. world_record d t c.args.cabling.now (map f c.reset_node.new.machines) c.reset_node.new.wires c.reset_node.new.changed c.args.turns)
    _ _ c.reset_node.result c.in-Reset.is (λ k. (refl, k.0, k.1, k.2)) (c.reset_node.ensures.ends c.args.cabling.now)

pub returns-in-Config-clause-ends : goal.returns-in-Config-clause-ends
returns-in-Config-clause-ends g c =
    let f = g.M.PortMachine.record_of in
    ends-of c.args.act.now (Config c.in-Config.from c.in-Config.root_id c.in-Config.force c.in-Config.gap)
    (λ d t. world_record d t c.args.cabling.now (map f c.args.machines.now) c.args.wires.now c.args.changed.now c.args.turns)
    (λ d t. world_record d t c.args.cabling.now (map f c.send_config.new.machines) c.send_config.new.wires c.send_config.new.changed c.args.turns)
    _ _ c.send_config.result c.in-Config.is (λ k. (refl, k.0, k.1, k.2)) c.send_config.ensures.ends
