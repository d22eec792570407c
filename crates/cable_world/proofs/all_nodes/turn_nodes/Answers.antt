use Rattle.std.proofs.Common.{◌<◌, ◌≤◌, ◌∙◌, ◌≡◌, ℕ, true, false, [], length, map, get_or, arith, ap, sym, rules, if◌then◌else◌}
use Rattle.std.proofs.lemmas.List.{length-map, get_or_default, map-set}
use Rattle.std.proofs.Math.ListN.{get_or-map}
use Rattle.cabling.specs.Wiring.{ports_of}
use Rattle.port_state.specs.Machine.{NodeStep}
use Rattle.cable_world.specs.Turn.{node_turn, wires_after_sends, all_wires_after_sends, last_changes, same_list}
use Rattle.cable_world.specs.running.Hearing.{inbox_of}
use Rattle.cable_world.specs.running.Steps.{turns_of}
use Rattle.cable_world.proofs.running.Mixed.{next-is, mixed-set, mixed-all}
use Rattle.cable_world.proofs.running.AllNodes.{steps-length, step-at, rows-length, row-at, changes-length, change-at, get-some, record-at}
use Rattle.cable_world.proofs.all_nodes.turn_nodes.Goals as goal

pub turn_one-requires-clause-quiet : goal.turn_one-requires-clause-quiet
turn_one-requires-clause-quiet g c = λ p below none. let e : true ≡ false = sym (c.all_ports-heard.ensures p below) ∙ none in absurd cc

pub turn_one-requires-clause-ports : goal.turn_one-requires-clause-ports
turn_one-requires-clause-ports g c =
    let f = g.M.PortMachine.record_of in
    let k = c.loop-node.node in
    let old = map f c.args.machines.now in
    let new = map (λ (s : NodeStep). s.node) (turns_of c.args.arrivals.now c.args.cabling.now old) in
    let size : length old ≡ length c.args.cabling.now = length-map c.args.machines.now f ∙ c.requires.nodes in
    let sizes : length new ≡ length old = length-map (turns_of c.args.arrivals.now c.args.cabling.now old) (λ (s : NodeStep). s.node) ∙ steps-length c.args.arrivals.now c.args.cabling.now old size in
    let inside : k < length old = omega (arith, length-map c.args.machines.now f, c.loop-node-test.true) in
    let x = f (get_or c.loop-node.machines k c.index-machines-node.result) in
    let at = next-is k new old (map f c.loop-node.machines) x sizes inside c.loop-node.invariant.nodes (record-at f c.loop-node.machines k c.index-machines-node.result c.index-machines-node.is) in
    c.requires.ports k x (get-some old k x inside at)

pub loop-node-preserved : goal.loop-node-preserved
loop-node-preserved g c =
    let f = g.M.PortMachine.record_of in
    let k = c.loop-node.node in
    let table = c.args.arrivals.now in
    let cabling = c.args.cabling.now in
    let turns = c.args.turns in
    let old = map f c.args.machines.now in
    let steps = turns_of table cabling old in
    let new = map (λ (s : NodeStep). s.node) steps in
    let size : length old ≡ length cabling = length-map c.args.machines.now f ∙ c.requires.nodes in
    let many : length steps ≡ length old = steps-length table cabling old size in
    let sizes : length new ≡ length old = length-map steps (λ (s : NodeStep). s.node) ∙ many in
    let inside : k < length old = omega (arith, length-map c.args.machines.now f, c.loop-node-test.true) in
    let rows : k < length c.args.wires.now = omega (arith, c.requires.rows, size, inside) in
    let marks : length c.args.changed.now ≡ length old = c.requires.changes ∙ sym size in
    let x = f (get_or c.loop-node.machines k c.index-machines-node.result) in
    let at : x ≡ get_or old k x = next-is k new old (map f c.loop-node.machines) x sizes inside c.loop-node.invariant.nodes (record-at f c.loop-node.machines k c.index-machines-node.result c.index-machines-node.is) in
    let step : NodeStep = node_turn (inbox_of table 0 (ports_of cabling k)) x in
    let is_step : get_or steps k step ≡ step = step-at table cabling old k x step size inside at in
    let y = f c.turn_one.new.machine in
    let made : y ≡ step.node = c.in_ok-changed.ensures.node in
    let at_new : step.node ≡ get_or new k step.node = sym (ap (λ (s : NodeStep). s.node) is_step) ∙ sym (get_or-map (λ (s : NodeStep). s.node) steps k step) in
    let row = c.index-wires-node.result in
    let there : row ≡ get_or c.args.wires.now k row = next-is k (all_wires_after_sends steps c.args.wires.now) c.args.wires.now c.loop-node.wires row (rows-length steps c.args.wires.now) rows c.loop-node.invariant.wires c.index-wires-node.is in
    let last : ℕ = get_or c.loop-node.changed k 0 in
    let was : last ≡ get_or c.args.changed.now k last =
    next-is k (last_changes turns old new c.args.changed.now) c.args.changed.now c.loop-node.changed last (changes-length turns old new c.args.changed.now)
    (omega (arith, marks, inside)) c.loop-node.invariant.changes (get_or_default c.loop-node.changed k 0 last (search rules)) in
    record {
      nodes =
          map-set f c.loop-node.machines k c.turn_one.new.machine
          ∙ mixed-set k new old (map f c.loop-node.machines) y step.node sizes inside c.loop-node.invariant.nodes (made ∙ at_new);
      changes =
          mixed-set k (last_changes turns old new c.args.changed.now) c.args.changed.now c.loop-node.changed c.in_ok-changed.field-0 0
          (changes-length turns old new c.args.changed.now) (omega (arith, marks, inside)) c.loop-node.invariant.changes
          (c.in_ok-changed.ensures.changed
          ∙ ap (λ z. if same_list x z then last else turns) made
          ∙ sym (change-at turns old new c.args.changed.now k x step.node last inside sizes marks at at_new was));
      wires =
          mixed-set k (all_wires_after_sends steps c.args.wires.now) c.args.wires.now c.loop-node.wires c.turn_one.new.wires [] (rows-length steps c.args.wires.now) rows c.loop-node.invariant.wires
          (c.in_ok-changed.ensures.sent ∙ ap (wires_after_sends 0 step.sends) (sym c.index-wires-node.is)
          ∙ ap (λ (s : NodeStep). wires_after_sends 0 s.sends row) (sym is_step)
          ∙ sym (row-at steps c.args.wires.now k step row [] (omega (arith, many, inside)) rows there));
    }

pub returns-clause-node : goal.returns-clause-node
returns-clause-node g c =
    let f = g.M.PortMachine.record_of in
    let old = map f c.args.machines.now in
    let steps = turns_of c.args.arrivals.now c.args.cabling.now old in
    let size : length old ≡ length c.args.cabling.now = length-map c.args.machines.now f ∙ c.requires.nodes in
    let sizes = length-map steps (λ (s : NodeStep). s.node) ∙ steps-length c.args.arrivals.now c.args.cabling.now old size in
    c.loop-node.invariant.nodes ∙ mixed-all c.loop-node.node (map (λ (s : NodeStep). s.node) steps) old sizes (omega (arith, length-map c.args.machines.now f, c.loop-node-test.false))

pub returns-clause-changes : goal.returns-clause-changes
returns-clause-changes g c =
    let f = g.M.PortMachine.record_of in
    let old = map f c.args.machines.now in
    let steps = turns_of c.args.arrivals.now c.args.cabling.now old in
    let new = map (λ (s : NodeStep). s.node) steps in
    let size : length old ≡ length c.args.cabling.now = length-map c.args.machines.now f ∙ c.requires.nodes in
    let sizes = length-map steps (λ (s : NodeStep). s.node) ∙ steps-length c.args.arrivals.now c.args.cabling.now old size in
    let end : length old ≤ c.loop-node.node = omega (arith, length-map c.args.machines.now f, c.loop-node-test.false) in
    let same = c.loop-node.invariant.nodes ∙ mixed-all c.loop-node.node new old sizes end in
    c.loop-node.invariant.changes
    ∙ mixed-all c.loop-node.node (last_changes c.args.turns old new c.args.changed.now) c.args.changed.now (changes-length c.args.turns old new c.args.changed.now) (omega (arith, c.requires.changes, c.requires.nodes, c.loop-node-test.false))
    ∙ ap (λ ns. last_changes c.args.turns old ns c.args.changed.now) (sym same)

pub returns-clause-wires : goal.returns-clause-wires
returns-clause-wires g c =
    let f = g.M.PortMachine.record_of in
    let old = map f c.args.machines.now in
    let steps = turns_of c.args.arrivals.now c.args.cabling.now old in
    c.loop-node.invariant.wires
    ∙ mixed-all c.loop-node.node (all_wires_after_sends steps c.args.wires.now) c.args.wires.now (rows-length steps c.args.wires.now) (omega (arith, c.requires.rows, c.requires.nodes, c.loop-node-test.false))
