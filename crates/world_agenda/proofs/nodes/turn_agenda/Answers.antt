use Rattle.std.proofs.Common.{◌∙◌, ◌+◌, ℕ, List, length, map, ap, sym, arith, inl, inr}
use Rattle.std.proofs.lemmas.List.{length-map}
use Rattle.port_state.specs.Machine.{PortNode}
use Rattle.cable_world.specs.Wire.{Wire, arrives, stays}
use Rattle.cable_world.specs.Parts.{world_record}
use Rattle.world_agenda.specs.declared.node.AgendaNode.{AgendaNode}
use Rattle.world_agenda.specs.Clock.{caught_up}
use Rattle.world_agenda.proofs.nodes.turn_agenda.Goals as goal
use Rattle.cable_world.proofs.Lemmas.{all-young, rows-long, sent-long, turn-is}

pub turn_live-requires-clause-young : goal.turn_live-requires-clause-young
turn_live-requires-clause-young g c = all-young _ c.requires.short c.requires.lawful.1.well_formed

pub turn_nodes-requires-clause-few : goal.turn_nodes-requires-clause-few
turn_nodes-requires-clause-few g c =
    let f : AgendaNode g.row.M.Denot g.M.PortMachine → PortNode = λ n. caught_up c.args.turns n.clock (g.M.PortMachine.record_of n.machine) in
    let w = c.requires.lawful.1.well_formed in
    omega (arith, length-map c.args.nodes.now f, w.count, w.cabling.few_nodes)

pub turn_nodes-requires-clause-nodes : goal.turn_nodes-requires-clause-nodes
turn_nodes-requires-clause-nodes g c =
    let f : AgendaNode g.row.M.Denot g.M.PortMachine → PortNode = λ n. caught_up c.args.turns n.clock (g.M.PortMachine.record_of n.machine) in
    sym (length-map c.args.nodes.now f) ∙ c.requires.lawful.1.well_formed.count

pub turn_nodes-requires-clause-changes : goal.turn_nodes-requires-clause-changes
turn_nodes-requires-clause-changes g c = c.requires.lawful.1.well_formed.changes

pub turn_nodes-requires-clause-rows : goal.turn_nodes-requires-clause-rows
turn_nodes-requires-clause-rows g c =
    ap length c.in_ok-turn_live.ensures.stays ∙ length-map c.args.wires.now (map (stays c.args.delay)) ∙ c.requires.lawful.1.well_formed.wire_rows

pub turn_nodes-requires-clause-ports : goal.turn_nodes-requires-clause-ports
turn_nodes-requires-clause-ports g c = λ k x at. (c.requires.lawful.1.well_formed.nodes k x at).ports

pub returns-clause-done : goal.returns-clause-done
returns-clause-done g c t =
    let f : AgendaNode g.row.M.Denot g.M.PortMachine → PortNode = λ n. caught_up c.args.turns n.clock (g.M.PortMachine.record_of n.machine) in
    let h : AgendaNode g.row.M.Denot g.M.PortMachine → PortNode = λ n. caught_up (c.args.turns + 1) n.clock (g.M.PortMachine.record_of n.machine) in
    turn-is (world_record c.args.delay t c.args.cabling.now (map f c.args.nodes.now) c.args.wires.now c.args.changed.now c.args.turns)
    c.turn_live.new.arrivals (map h c.turn_nodes.new.nodes) c.turn_live.new.wires c.turn_nodes.new.wires
    c.turn_nodes.new.changed c.in_ok-turn_live.ensures.arrives c.in_ok-turn_live.ensures.stays
    c.in_ok-turn_nodes.ensures.node c.in_ok-turn_nodes.ensures.changes c.in_ok-turn_nodes.ensures.wires

pub returns-clause-same : goal.returns-clause-same
returns-clause-same g c =
    let rows = c.args.wires.now in
    let lengths = λ (ws : List (List Wire)). map length ws in
    ap (λ (ws : List (List (List _))). map length ws) c.in_ok-turn_live.ensures.arrives
    ∙ rows-long (arrives c.args.delay) rows ∙ sym (rows-long (stays c.args.delay) rows)
    ∙ ap lengths (sym c.in_ok-turn_live.ensures.stays)
    ∙ sym (sent-long _ c.turn_live.new.wires) ∙ ap lengths (sym c.in_ok-turn_nodes.ensures.wires)

pub hearers-requires-clause-nodes : goal.hearers-requires-clause-nodes
hearers-requires-clause-nodes g c =
    let w = c.requires.lawful.1.well_formed in
    ap length c.in_ok-turn_live.ensures.arrives ∙ length-map c.args.wires.now (map (arrives c.args.delay)) ∙ w.wire_rows

pub due_nodes-requires-clause-few : goal.due_nodes-requires-clause-few
due_nodes-requires-clause-few g c =
    let f : AgendaNode g.row.M.Denot g.M.PortMachine → PortNode = λ n. caught_up c.args.turns n.clock (g.M.PortMachine.record_of n.machine) in
    let w = c.requires.lawful.1.well_formed in
    omega (arith, length-map c.args.nodes.now f, w.count, w.cabling.few_nodes)

pub due_nodes-requires-clause-below : goal.due_nodes-requires-clause-below
due_nodes-requires-clause-below g c =
    let ends : AgendaNode g.row.M.Denot g.M.PortMachine → ℕ = λ n. n.clock + n.idle in
    λ k has. let less = c.requires.knows.near k has in omega (arith, less, length-map c.args.nodes.now ends)

pub due_nodes-requires-clause-idle : goal.due_nodes-requires-clause-idle
due_nodes-requires-clause-idle g c =
    c.requires.knows.idles

pub turn_nodes-requires-clause-below : goal.turn_nodes-requires-clause-below
turn_nodes-requires-clause-below g c =
    let f : AgendaNode g.row.M.Denot g.M.PortMachine → PortNode = λ n. caught_up c.args.turns n.clock (g.M.PortMachine.record_of n.machine) in
    let w = c.requires.lawful.1.well_formed in
    λ k has. elim ((c.union-visited.ensures.members k).0 has) [
      | inl due ↦ c.due_nodes.ensures.below k due
      | inr heard ↦ let less = c.hearers.ensures.below k heard in omega (arith, less, length-map c.args.nodes.now f, w.count)
    ]

pub turn_nodes-requires-clause-within : goal.turn_nodes-requires-clause-within
turn_nodes-requires-clause-within g c =
    λ k has. (c.union-visited.ensures.members k).1 (inr has)

pub turn_nodes-requires-clause-due : goal.turn_nodes-requires-clause-due
turn_nodes-requires-clause-due g c =
    λ k inside out. c.due_nodes.ensures.due k inside (λ has. out ((c.union-visited.ensures.members k).1 (inl has)))

pub turn_nodes-requires-clause-later : goal.turn_nodes-requires-clause-later
turn_nodes-requires-clause-later g c =
    λ k inside out. c.due_nodes.ensures.later k inside (λ has. out ((c.union-visited.ensures.members k).1 (inl has)))

pub returns-clause-knows : goal.returns-clause-knows
returns-clause-knows g c =
    let ends : AgendaNode g.row.M.Denot g.M.PortMachine → ℕ = λ n. n.clock + n.idle in
    record {
      near = λ k has.
          let less = c.in_ok-turn_nodes.ensures.near k has in
          omega (arith, less, c.turn_nodes.auto.nodes, length-map c.turn_nodes.new.nodes ends);
      idles = c.in_ok-turn_nodes.ensures.soon;
    }
