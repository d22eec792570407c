use Rattle.std.proofs.Common.{◌∙◌, List, length, map, ap, sym, arith}
use Rattle.std.proofs.lemmas.List.{length-map}
use Rattle.cable_world.specs.Wire.{Wire, arrives, stays}
use Rattle.cable_world.specs.Parts.{world_record}
use Rattle.cable_world.proofs.running.Whole.{all-young, has-its-ports, turn-is, rows-long, sent-long}
use Rattle.cable_world.proofs.all_nodes.turn_world.Goals as goal

pub turn_wires-requires-clause-young : goal.turn_wires-requires-clause-young
turn_wires-requires-clause-young g c =
    all-young (world_record c.args.delay c.requires.lawful.0 c.args.cabling.now (map g.M.PortMachine.record_of c.args.machines.now) c.args.wires.now c.args.changed.now c.args.turns)
    c.requires.short c.requires.lawful.1.well_formed

pub turn_wires-requires-clause-same : goal.turn_wires-requires-clause-same
turn_wires-requires-clause-same g c = c.requires.same

pub turn_nodes-requires-clause-few : goal.turn_nodes-requires-clause-few
turn_nodes-requires-clause-few g c =
    let f = c.requires.lawful.1.well_formed in
    omega (arith, length-map c.args.machines.now g.M.PortMachine.record_of, f.count, f.cabling.few_nodes)

pub turn_nodes-requires-clause-nodes : goal.turn_nodes-requires-clause-nodes
turn_nodes-requires-clause-nodes g c =
    sym (length-map c.args.machines.now g.M.PortMachine.record_of) ∙ c.requires.lawful.1.well_formed.count

pub turn_nodes-requires-clause-changes : goal.turn_nodes-requires-clause-changes
turn_nodes-requires-clause-changes g c = c.requires.lawful.1.well_formed.changes

pub turn_nodes-requires-clause-rows : goal.turn_nodes-requires-clause-rows
turn_nodes-requires-clause-rows g c =
    ap length c.in_ok-turn_wires.ensures.stays ∙ length-map c.args.wires.now (map (stays c.args.delay)) ∙ c.requires.lawful.1.well_formed.wire_rows

pub turn_nodes-requires-clause-ports : goal.turn_nodes-requires-clause-ports
turn_nodes-requires-clause-ports g c =
    has-its-ports (world_record c.args.delay c.requires.lawful.0 c.args.cabling.now (map g.M.PortMachine.record_of c.args.machines.now) c.args.wires.now c.args.changed.now c.args.turns)
    c.requires.lawful.1.well_formed

pub returns-clause-done : goal.returns-clause-done
returns-clause-done g c t =
    turn-is (world_record c.args.delay t c.args.cabling.now (map g.M.PortMachine.record_of c.args.machines.now) c.args.wires.now c.args.changed.now c.args.turns)
    c.turn_wires.new.arrivals (map g.M.PortMachine.record_of c.turn_nodes.new.machines) c.turn_wires.new.wires c.turn_nodes.new.wires
    c.turn_nodes.new.changed c.in_ok-turn_wires.ensures.arrives c.in_ok-turn_wires.ensures.stays
    c.in_ok-turn_nodes.ensures.node c.in_ok-turn_nodes.ensures.changes c.in_ok-turn_nodes.ensures.wires

pub returns-clause-same : goal.returns-clause-same
returns-clause-same g c =
    let rows = c.args.wires.now in
    let lengths = λ (ws : List (List Wire)). map length ws in
    ap (λ (ws : List (List (List _))). map length ws) c.in_ok-turn_wires.ensures.arrives
    ∙ rows-long (arrives c.args.delay) rows ∙ sym (rows-long (stays c.args.delay) rows)
    ∙ ap lengths (sym c.in_ok-turn_wires.ensures.stays)
    ∙ sym (sent-long _ c.turn_wires.new.wires) ∙ ap lengths (sym c.in_ok-turn_nodes.ensures.wires)
