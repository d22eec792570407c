use Rattle.std.proofs.Common.{◌<◌, ◌≤◌, ◌∙◌, ◌≡◌, ◌+◌, ℕ, length, map, get_or, slice_index_or, slice_set, arith, ap, sym, refl, subst, inl, inr, if◌then◌else◌}
use Rattle.std.proofs.lemmas.Bool.{cases_eq}
use Rattle.std.proofs.lemmas.List.{length-map, get_or_default, get_or-map, map-set, get_or-set_same, get_or-set_other, length-set}
use Rattle.std.proofs.lemmas.List.Elements.{All-set, All-weaker}
use Rattle.cabling.specs.NodeSet.{Holds}
use Rattle.cabling.specs.Wiring.{ports_of}
use Rattle.cabling.proofs.Lemmas.{none_of_zero}
use Rattle.port_state.specs.Idle.{IsIdleFor}
use Rattle.port_state.specs.Machine.{PortNode, NodeStep}
use Rattle.cable_world.specs.Turn.{node_turn, wires_after_sends, all_wires_after_sends, last_changes, same_list}
use Rattle.cable_world.specs.running.Hearing.{AreQuietBut, inbox_of}
use Rattle.cable_world.specs.running.Steps.{turns_of}
use Rattle.world_agenda.specs.declared.node.AgendaNode.{AgendaNode}
use Rattle.world_agenda.specs.Clock.{caught_up}
use Rattle.world_agenda.proofs.Hears.{quiet-but}
use Rattle.world_agenda.proofs.LiveRows.{live-set}
use Rattle.world_agenda.proofs.Places.{all-at}
use Rattle.world_agenda.proofs.Blend.{Blended, blend-start, blend-set, blend-end}
use Rattle.world_agenda.proofs.Quiet.{quiet-nodes, quiet-rows, quiet-changes}
use Rattle.world_agenda.proofs.Blend.{less-within}
use Rattle.world_agenda.proofs.nodes.turn_nodes.Goals as goal
use Rattle.cable_world.proofs.Lemmas.{steps-length, rows-length, changes-length, get-some, step-at, row-at, change-at}

pub turn_node-requires-clause-behind : goal.turn_node-requires-clause-behind
turn_node-requires-clause-behind g c =
    let k = c.in-Some.node in
    let ms = c.loop-node.nodes in
    let first = c.args.nodes.now in
    let inv = c.loop-node.invariant in
    let held = c.in-Some.ensures.held in
    let within : k < length first = c.requires.below k (inv.left k held) in
    let inside : k < length ms = omega (arith, c.loop-node.auto.nodes, within) in
    let m = slice_index_or ms k c.index-nodes-at.result in
    let was : m ≡ get_or first k m = get_or_default ms k c.index-nodes-at.result m inside ∙ inv.waiting k m within held in
    all-at (λ n. n.clock ≤ c.args.turns) k first m within was c.requires.behind

pub turn_node-requires-clause-idle : goal.turn_node-requires-clause-idle
turn_node-requires-clause-idle g c =
    let k = c.in-Some.node in
    let ms = c.loop-node.nodes in
    let first = c.args.nodes.now in
    let inv = c.loop-node.invariant in
    let held = c.in-Some.ensures.held in
    let within : k < length first = c.requires.below k (inv.left k held) in
    let inside : k < length ms = omega (arith, c.loop-node.auto.nodes, within) in
    let m = slice_index_or ms k c.index-nodes-at.result in
    let was : m ≡ get_or first k m = get_or_default ms k c.index-nodes-at.result m inside ∙ inv.waiting k m within held in
    all-at (λ n. c.args.turns ≤ n.clock + n.idle) k first m within was c.requires.idle

pub turn_node-requires-clause-ports : goal.turn_node-requires-clause-ports
turn_node-requires-clause-ports g c =
    let f : AgendaNode g.row.M.Denot g.M.PortMachine → PortNode = λ n. caught_up c.args.turns n.clock (g.M.PortMachine.record_of n.machine) in
    let k = c.in-Some.node in
    let ms = c.loop-node.nodes in
    let first = c.args.nodes.now in
    let inv = c.loop-node.invariant in
    let held = c.in-Some.ensures.held in
    let within : k < length first = c.requires.below k (inv.left k held) in
    let inside : k < length ms = omega (arith, c.loop-node.auto.nodes, within) in
    let m = slice_index_or ms k c.index-nodes-at.result in
    let was : m ≡ get_or first k m = get_or_default ms k c.index-nodes-at.result m inside ∙ inv.waiting k m within held in
    let at : f m ≡ get_or (map f first) k (f m) = sym (get_or-map f first k m (f m) within ∙ ap f (sym was)) in
    c.requires.ports k (f m) (get-some (map f first) k (f m) (omega (arith, length-map first f, within)) at)

pub turn_node-requires-clause-quiet : goal.turn_node-requires-clause-quiet
turn_node-requires-clause-quiet g c =
    subst (λ (set : ℕ). AreQuietBut set c.args.arrivals.now c.args.cabling.now c.in-Some.node) (sym c.at.ensures)
    (quiet-but c.args.heard.now c.args.arrivals.now c.args.cabling.now c.in-Some.node c.requires.spared)

pub loop-node-init : goal.loop-node-init
loop-node-init g c =
    let f : AgendaNode g.row.M.Denot g.M.PortMachine → PortNode = λ n. caught_up c.args.turns n.clock (g.M.PortMachine.record_of n.machine) in
    let h : AgendaNode g.row.M.Denot g.M.PortMachine → PortNode = λ n. caught_up (c.args.turns + 1) n.clock (g.M.PortMachine.record_of n.machine) in
    let r : AgendaNode g.row.M.Denot g.M.PortMachine → PortNode = λ n. g.M.PortMachine.record_of n.machine in
    let clock : AgendaNode g.row.M.Denot g.M.PortMachine → ℕ = λ n. n.clock in
    let idle : AgendaNode g.row.M.Denot g.M.PortMachine → ℕ = λ n. n.idle in
    let rests : (n : AgendaNode g.row.M.Denot g.M.PortMachine) → IsIdleFor (idle n) (r n) = λ n. n.rests in
    let first = c.args.nodes.now in
    let old = map f first in
    let steps = turns_of c.args.arrivals.now c.args.cabling.now old in
    let new = map (λ (s : NodeStep). s.node) steps in
    record {
      left = λ k has. has;
      nodes = blend-start c.args.visited new (map h first) (quiet-nodes r clock idle rests c.args.turns c.args.heard.now c.args.visited c.args.arrivals.now c.args.cabling.now first c.requires.behind c.requires.due c.requires.spared c.requires.within c.requires.nodes);
      waiting = λ k d inside has. refl;
      changes = blend-start c.args.visited (last_changes (c.args.turns + 1) old new c.args.changed.now) c.args.changed.now
          (quiet-changes r clock idle rests c.args.turns c.args.heard.now c.args.visited c.args.arrivals.now c.args.cabling.now first c.requires.behind c.requires.due c.requires.spared c.requires.within c.requires.nodes c.args.changed.now c.requires.changes);
      wires = blend-start c.args.visited (all_wires_after_sends steps c.args.wires.now) c.args.wires.now
          (quiet-rows r clock idle rests c.args.turns c.args.heard.now c.args.visited c.args.arrivals.now c.args.cabling.now first c.requires.behind c.requires.due c.requires.spared c.requires.within c.requires.nodes c.args.wires.now c.requires.rows);
      behind = All-weaker (λ n. n.clock ≤ c.args.turns) (λ n. n.clock ≤ c.args.turns + 1) (λ n few. omega (arith, few)) first c.requires.behind;
      idle = c.requires.idle;
      ahead = c.requires.due;
      soon = λ k inside out off. c.requires.later k (omega (arith, inside, length-map first (λ n. n.clock + n.idle))) out;
      near = λ k has. absurd (none_of_zero k (subst (λ (n : ℕ). Holds n k) c.none-agenda.ensures has));
      live = c.requires.live;
    }

pub loop-node-preserved : goal.loop-node-preserved
loop-node-preserved g c =
    let f : AgendaNode g.row.M.Denot g.M.PortMachine → PortNode = λ n. caught_up c.args.turns n.clock (g.M.PortMachine.record_of n.machine) in
    let h : AgendaNode g.row.M.Denot g.M.PortMachine → PortNode = λ n. caught_up (c.args.turns + 1) n.clock (g.M.PortMachine.record_of n.machine) in
    let k = c.in-Some.node in
    let ms = c.loop-node.nodes in
    let first = c.args.nodes.now in
    let inv = c.loop-node.invariant in
    let held = c.in-Some.ensures.held in
    let within : k < length first = c.requires.below k (inv.left k held) in
    let inside : k < length ms = omega (arith, c.loop-node.auto.nodes, within) in
    let m = slice_index_or ms k c.index-nodes-at.result in
    let was : m ≡ get_or first k m = get_or_default ms k c.index-nodes-at.result m inside ∙ inv.waiting k m within held in
    let at : f m ≡ get_or (map f first) k (f m) = sym (get_or-map f first k m (f m) within ∙ ap f (sym was)) in
    let take = c.in-Some.ensures in
    let left = c.loop-node.left in
    let less = c.take_least.new.self in
    let table = c.args.arrivals.now in
    let cabling = c.args.cabling.now in
    let turns = c.args.turns in
    let old = map f first in
    let steps = turns_of table cabling old in
    let new = map (λ (s : NodeStep). s.node) steps in
    let ends : AgendaNode g.row.M.Denot g.M.PortMachine → ℕ = λ n. n.clock + n.idle in
    let size : length old ≡ length cabling = length-map first f ∙ c.requires.nodes in
    let many : length steps ≡ length old = steps-length table cabling old size in
    let sizes : length new ≡ length old = length-map steps (λ (s : NodeStep). s.node) ∙ many in
    let there_old : k < length old = omega (arith, length-map first f, within) in
    let rows : k < length c.args.wires.now = omega (arith, c.requires.rows, size, there_old) in
    let marks : length c.args.changed.now ≡ length old = c.requires.changes ∙ sym size in
    let there_mark : k < length c.args.changed.now = omega (arith, marks, there_old) in
    let x = f m in
    let step : NodeStep = node_turn (inbox_of table 0 (ports_of cabling k)) x in
    let is_step : get_or steps k step ≡ step = step-at table cabling old k x step size there_old at in
    let node = c.turn_node.new.node in
    let turned = c.in_ok-changed.ensures in
    let made : h node ≡ step.node = turned.node in
    let at_new : step.node ≡ get_or new k step.node =
    sym (get_or-map (λ (s : NodeStep). s.node) steps k step step.node (omega (arith, many, there_old)) ∙ ap (λ (s : NodeStep). s.node) is_step) in
    let row = c.index-wires-at.result in
    let there : row ≡ get_or c.args.wires.now k row = c.index-wires-at.is ∙ inv.wires.waits k row rows held in
    let last : ℕ = get_or c.loop-node.changed k 0 in
    let was_changed : last ≡ get_or c.args.changed.now k last = inv.changes.waits k 0 there_mark held ∙ get_or_default c.args.changed.now k 0 last there_mark in
    let more : turns + 1 ≤ ends node = omega (arith, turned.clock) in
    record {
      left = λ j has. inv.left j (less-within left less k take.others take.gone j has);
      nodes = subst (λ ys. Blended less new (map h first) ys) (sym (map-set h ms k node))
          (blend-set left less k new (map h first) (map h ms) (h node) take.others take.gone inv.nodes (omega (arith, length-map first h, within))
          (λ d. made ∙ at_new ∙ get_or_default new k step.node d (omega (arith, sizes, there_old))));
      waiting = λ j d there_j has. elim (cases_eq j k) [
        | inl e ↦ absurd (take.gone (subst (λ (i : ℕ). Holds less i) e has))
        | inr ne ↦ get_or-set_other ms k j node d ne ∙ inv.waiting j d there_j ((take.others j ne).0 has)
      ];
      changes = blend-set left less k (last_changes (turns + 1) old new c.args.changed.now) c.args.changed.now c.loop-node.changed c.in_ok-changed.field-0 take.others take.gone inv.changes there_mark
          (λ d. turned.changed ∙ ap (λ z. if same_list x z then last else turns + 1) made
          ∙ sym (change-at (turns + 1) old new c.args.changed.now k x step.node last there_old sizes marks at at_new was_changed)
          ∙ get_or_default (last_changes (turns + 1) old new c.args.changed.now) k 0 d (omega (arith, changes-length (turns + 1) old new c.args.changed.now, there_mark)));
      wires = blend-set left less k (all_wires_after_sends steps c.args.wires.now) c.args.wires.now c.loop-node.wires c.turn_node.new.wires take.others take.gone inv.wires rows
          (λ d. turned.sent ∙ ap (wires_after_sends 0 step.sends) (sym c.index-wires-at.is)
          ∙ ap (λ (s : NodeStep). wires_after_sends 0 s.sends row) (sym is_step)
          ∙ sym (row-at steps c.args.wires.now k step row d (omega (arith, many, there_old)) rows there));
      behind = All-set (λ n. n.clock ≤ turns + 1) ms k node (omega (arith, c.turn_node.ensures.clock)) inv.behind;
      idle = All-set (λ n. turns ≤ n.clock + n.idle) ms k node c.turn_node.ensures.idle inv.idle;
      ahead = λ j there_j out. rw (map-set ends ms k node) (elim (cases_eq j k) [
        | inl e ↦ rw (e, get_or-set_same (map ends ms) k (ends node) 0 (omega (arith, length-map ms ends, inside))) (omega (arith, c.turn_node.ensures.clock))
        | inr ne ↦ rw (get_or-set_other (map ends ms) k j (ends node) 0 ne)
            (inv.ahead j (omega (arith, there_j, length-map ms ends, length-map (slice_set ms k node) ends, length-set ms k node)) (λ has. out ((take.others j ne).1 has)))
      ]);
      soon = λ j there_j out off. rw (map-set ends ms k node) (elim (cases_eq j k) [
        | inl e ↦ rw (e, get_or-set_same (map ends ms) k (ends node) 0 (omega (arith, length-map ms ends, inside)))
            (c.turn_node.ensures.end (λ has. off (subst (λ (i : ℕ). Holds c.turn_node.new.agenda.soon i) (sym e) has)))
        | inr ne ↦ rw (get_or-set_other (map ends ms) k j (ends node) 0 ne)
            (let low = inv.soon j there_j (λ has. out ((take.others j ne).1 has)) (λ has. off ((c.turn_node.ensures.others j ne).1 has)) in
            omega (arith, low, c.turn_node.ensures.next))
      ]);
      near = λ j has. elim (cases_eq j k) [
        | inl e ↦ omega (arith, e, within)
        | inr ne ↦ inv.near j ((c.turn_node.ensures.others j ne).0 has)
      ];
      live = live-set c.loop-node.live c.note_live.new.live k c.loop-node.wires c.turn_node.new.wires c.index-wires-at-in-Some.result (omega (arith, inv.wires.long, rows))
          c.note_live.ensures.kept c.note_live.ensures.others c.note_live.ensures.rest inv.live;
    }

pub loop-node-smaller : goal.loop-node-smaller
loop-node-smaller g c =
    c.in-Some.ensures.fewer

pub returns-clause-node : goal.returns-clause-node
returns-clause-node g c =
    let f : AgendaNode g.row.M.Denot g.M.PortMachine → PortNode = λ n. caught_up c.args.turns n.clock (g.M.PortMachine.record_of n.machine) in
    let h : AgendaNode g.row.M.Denot g.M.PortMachine → PortNode = λ n. caught_up (c.args.turns + 1) n.clock (g.M.PortMachine.record_of n.machine) in
    let first = c.args.nodes.now in
    let steps = turns_of c.args.arrivals.now c.args.cabling.now (map f first) in
    let sizes = length-map steps (λ (s : NodeStep). s.node) ∙ steps-length c.args.arrivals.now c.args.cabling.now (map f first) (length-map first f ∙ c.requires.nodes) in
    blend-end c.loop-node.left (map (λ (s : NodeStep). s.node) steps) (map h first) (map h c.loop-node.nodes) c.in_default.ensures.none (sizes ∙ length-map first f ∙ sym (length-map first h)) c.loop-node.invariant.nodes

pub returns-clause-changes : goal.returns-clause-changes
returns-clause-changes g c =
    let f : AgendaNode g.row.M.Denot g.M.PortMachine → PortNode = λ n. caught_up c.args.turns n.clock (g.M.PortMachine.record_of n.machine) in
    let h : AgendaNode g.row.M.Denot g.M.PortMachine → PortNode = λ n. caught_up (c.args.turns + 1) n.clock (g.M.PortMachine.record_of n.machine) in
    let first = c.args.nodes.now in
    let old = map f first in
    let steps = turns_of c.args.arrivals.now c.args.cabling.now old in
    let new = map (λ (s : NodeStep). s.node) steps in
    let sizes = length-map steps (λ (s : NodeStep). s.node) ∙ steps-length c.args.arrivals.now c.args.cabling.now old (length-map first f ∙ c.requires.nodes) in
    let same = blend-end c.loop-node.left new (map h first) (map h c.loop-node.nodes) c.in_default.ensures.none (sizes ∙ length-map first f ∙ sym (length-map first h)) c.loop-node.invariant.nodes in
    blend-end c.loop-node.left (last_changes (c.args.turns + 1) old new c.args.changed.now) c.args.changed.now c.loop-node.changed c.in_default.ensures.none
    (changes-length (c.args.turns + 1) old new c.args.changed.now) c.loop-node.invariant.changes
    ∙ ap (λ ns. last_changes (c.args.turns + 1) old ns c.args.changed.now) (sym same)

pub returns-clause-wires : goal.returns-clause-wires
returns-clause-wires g c =
    let f : AgendaNode g.row.M.Denot g.M.PortMachine → PortNode = λ n. caught_up c.args.turns n.clock (g.M.PortMachine.record_of n.machine) in
    let steps = turns_of c.args.arrivals.now c.args.cabling.now (map f c.args.nodes.now) in
    blend-end c.loop-node.left (all_wires_after_sends steps c.args.wires.now) c.args.wires.now c.loop-node.wires c.in_default.ensures.none (rows-length steps c.args.wires.now) c.loop-node.invariant.wires

pub returns-clause-ahead : goal.returns-clause-ahead
returns-clause-ahead g c =
    let ends : AgendaNode g.row.M.Denot g.M.PortMachine → ℕ = λ n. n.clock + n.idle in
    λ k d inside.
    let there = c.loop-node.invariant.ahead k (omega (arith, length-map c.loop-node.nodes ends, inside)) (c.in_default.ensures.none k) in
    omega (arith, there, get_or-map ends c.loop-node.nodes k d 0 inside)

pub returns-clause-soon : goal.returns-clause-soon
returns-clause-soon g c =
    let ends : AgendaNode g.row.M.Denot g.M.PortMachine → ℕ = λ n. n.clock + n.idle in
    λ k inside off.
    c.loop-node.invariant.soon k (omega (arith, inside, length-map c.loop-node.nodes ends, c.loop-node.auto.nodes)) (c.in_default.ensures.none k) off

pub bounds-nodes-at : goal.bounds-nodes-at
bounds-nodes-at g c =
    let k = c.in-Some.node in
    let within : k < length c.args.nodes.now = c.requires.below k (c.loop-node.invariant.left k c.in-Some.ensures.held) in
    omega (arith, c.loop-node.auto.nodes, within)

pub bounds-changed-at : goal.bounds-changed-at
bounds-changed-at g c =
    let k = c.in-Some.node in
    let within : k < length c.args.nodes.now = c.requires.below k (c.loop-node.invariant.left k c.in-Some.ensures.held) in
    omega (arith, c.loop-node.auto.changed, c.requires.changes, c.requires.nodes, within)

pub bounds-wires-at : goal.bounds-wires-at
bounds-wires-at g c =
    let k = c.in-Some.node in
    let within : k < length c.args.nodes.now = c.requires.below k (c.loop-node.invariant.left k c.in-Some.ensures.held) in
    omega (arith, c.loop-node.auto.wires, c.requires.rows, c.requires.nodes, within)

pub bounds-changed-at-in-Some : goal.bounds-changed-at-in-Some
bounds-changed-at-in-Some g c =
    let k = c.in-Some.node in
    let within : k < length c.args.nodes.now = c.requires.below k (c.loop-node.invariant.left k c.in-Some.ensures.held) in
    omega (arith, c.loop-node.auto.changed, c.requires.changes, c.requires.nodes, within)

pub turn_node-requires-clause-near : goal.turn_node-requires-clause-near
turn_node-requires-clause-near g c =
    let k = c.in-Some.node in
    let within : k < length c.args.nodes.now = c.requires.below k (c.loop-node.invariant.left k c.in-Some.ensures.held) in
    omega (arith, within, c.requires.few)

pub turn_node-requires-clause-exists : goal.turn_node-requires-clause-exists
turn_node-requires-clause-exists g c =
    let k = c.in-Some.node in
    let within : k < length c.args.nodes.now = c.requires.below k (c.loop-node.invariant.left k c.in-Some.ensures.held) in
    omega (arith, within, c.requires.nodes)

pub returns-in_err-changed-clause-idle : goal.returns-in_err-changed-clause-idle
returns-in_err-changed-clause-idle g c =
    All-set (λ n. c.args.turns ≤ n.clock + n.idle) c.loop-node.nodes c.in-Some.node c.turn_node.new.node c.turn_node.ensures.idle c.loop-node.invariant.idle

pub at-requires : goal.at-requires
at-requires g c =
    let k = c.in-Some.node in
    let within : k < length c.args.nodes.now = c.requires.below k (c.loop-node.invariant.left k c.in-Some.ensures.held) in
    omega (arith, within, c.requires.few)
