use Rattle.std.proofs.Common.{◌≡◌, ◌∙◌, ◌+◌, ℕ, All, List, None, Some, map, ap, sym, subst, arith}
use Rattle.std.proofs.lemmas.List.{length-map}
use Rattle.cabling.specs.NodeSet.{Holds}
use Rattle.port_state.specs.declared.timing.Timing.{Timing}
use Rattle.port_state.specs.Machine.{PortNode}
use Rattle.cable_world.specs.Act.{ActLeads, act_fault}
use Rattle.cable_world.specs.Parts.{world_record}
use Rattle.cable_world.specs.running.NodeActs.{AreLawful}
use Rattle.world_agenda.specs.declared.node.AgendaNode.{AgendaNode}
use Rattle.world_agenda.specs.Agenda.{Knows}
use Rattle.world_agenda.specs.Clock.{caught_up}
use Rattle.world_agenda.specs.Live.{HasLive}
use Rattle.world_agenda.proofs.Late.{all-now}
use Rattle.world_agenda.proofs.Touched.{at-untouched, known-touched, live-touched}
use Rattle.world_agenda.proofs.Whole.{moved, memory-of}
use Rattle.world_agenda.proofs.nodes.act_agenda.Goals as goal
use Rattle.cable_world.proofs.Lemmas.{fault-of, kept-then}

pub act_world-requires-clause-lawful : goal.act_world-requires-clause-lawful
act_world-requires-clause-lawful g c =
    subst (λ xs. AreLawful c.args.cabling.now xs c.args.wires.now c.args.changed.now c.args.turns) (sym c.catch_up.ensures.nodes) c.requires.lawful

-- ---- it is done

pub set_clocks-requires-clause-near : goal.set_clocks-requires-clause-near
set_clocks-requires-clause-near g c = λ k has.
    let less = c.in-Ok.ensures.touched.near k has in
    omega (arith, less, c.act_world.auto.machines)

pub set_clocks-requires-clause-others : goal.set_clocks-requires-clause-others
set_clocks-requires-clause-others g c =
    at-untouched (λ n. n.clock) c.in-Ok.touched c.args.turns c.catch_up.new.nodes c.act_world.new.machines c.act_world.auto.machines
    c.in-Ok.ensures.touched.nodes c.catch_up.ensures.clocks

pub returns-in-Ok-clause-done : goal.returns-in-Ok-clause-done
returns-in-Ok-clause-done g c =
    let f : AgendaNode g.row.M.Denot g.M.PortMachine → PortNode = λ n. g.M.PortMachine.record_of n.machine in
    let after : map f c.act_world.new.machines ≡ map (λ n. caught_up c.args.turns n.clock (f n)) c.set_clocks.new.nodes =
    sym (all-now f (λ n. n.clock) c.args.turns c.set_clocks.new.nodes c.set_clocks.ensures.clocks ∙ c.set_clocks.ensures.nodes) in
    moved (λ (xs ys : List PortNode). (d : ℕ) (t : Timing) → ActLeads c.args.act.now
    (world_record d t c.args.cabling.now xs c.args.wires.now c.args.changed.now c.args.turns)
    (world_record d t c.act_world.new.cabling ys c.act_world.new.wires c.act_world.new.changed c.args.turns))
    _ _ _ _ c.catch_up.ensures.nodes after c.in-Ok.ensures.done

pub returns-in-Ok-clause-accepted : goal.returns-in-Ok-clause-accepted
returns-in-Ok-clause-accepted g c =
    subst (λ (xs : List PortNode). (d : ℕ) (t : Timing) → act_fault c.args.act.now
    (world_record d t c.args.cabling.now xs c.args.wires.now c.args.changed.now c.args.turns) ≡ None) c.catch_up.ensures.nodes c.in-Ok.ensures.accepted

pub returns-in-Ok-clause-knows : goal.returns-in-Ok-clause-knows
returns-in-Ok-clause-knows g c = λ fine.
    let touched = c.in-Ok.ensures.touched in
    known-touched (λ n. n.clock + n.idle) c.args.agenda.now.soon c.in-Ok.touched _ c.args.agenda.now.next c.catch_up.new.nodes c.set_clocks.new.nodes _
    c.union-agenda.ensures.members c.catch_up.ensures.ends (c.set_clocks.auto.nodes ∙ c.act_world.auto.machines) touched.near
    (kept-then (Holds c.in-Ok.touched) (Holds c.in-Ok.touched) (Holds c.in-Ok.touched) c.catch_up.new.nodes c.act_world.new.machines c.set_clocks.new.nodes
    (λ k has. has) (λ k has. has) touched.nodes c.set_clocks.ensures.same) c.requires.knows

pub returns-in-Ok-clause-live : goal.returns-in-Ok-clause-live
returns-in-Ok-clause-live g c = λ fine live.
    let touched = c.in-Ok.ensures.touched in
    let f = c.requires.lawful.2.well_formed in
    let many = length-map c.args.nodes.now (λ n. caught_up c.args.turns n.clock (g.M.PortMachine.record_of n.machine)) in
    live-touched c.args.live.now c.in-Ok.touched _ c.args.wires.now c.act_world.new.wires c.union.ensures.members c.act_world.auto.wires
    (λ k has. let less = touched.near k has in omega (arith, less, c.catch_up.auto.nodes, many, f.count, f.wire_rows)) touched.wires live

-- ---- it is refused

pub returns-in-Fault-clause-refused : goal.returns-in-Fault-clause-refused
returns-in-Fault-clause-refused g c =
    let said = fault-of c.act_world.result c.in-Err.stop c.in-Fault.fault _ c.in-Err.is c.in-Fault.is c.act_world.ensures.refused in
    subst (λ (xs : List PortNode). (d : ℕ) (t : Timing) → act_fault c.args.act.now
    (world_record d t c.args.cabling.now xs c.args.wires.now c.args.changed.now c.args.turns) ≡ Some c.in-Fault.fault) c.catch_up.ensures.nodes said

pub returns-in-Fault-clause-same : goal.returns-in-Fault-clause-same
returns-in-Fault-clause-same g c =
    let f : AgendaNode g.row.M.Denot g.M.PortMachine → PortNode = λ n. g.M.PortMachine.record_of n.machine in
    let kept = fault-of c.act_world.result c.in-Err.stop c.in-Fault.fault _ c.in-Err.is c.in-Fault.is c.act_world.ensures.same in
    let now = all-now f (λ n. n.clock) c.args.turns c.catch_up.new.nodes c.catch_up.ensures.clocks in
    (kept.0, ap (map (λ n. caught_up c.args.turns n.clock (f n))) kept.1 ∙ now ∙ c.catch_up.ensures.nodes, kept.2, kept.3)

pub returns-in-Fault-clause-clocks : goal.returns-in-Fault-clause-clocks
returns-in-Fault-clause-clocks g c =
    let kept = fault-of c.act_world.result c.in-Err.stop c.in-Fault.fault _ c.in-Err.is c.in-Fault.is c.act_world.ensures.same in
    subst (λ ns. All (λ n. n.clock ≡ c.args.turns) ns) (sym kept.1) c.catch_up.ensures.clocks

pub returns-in-Fault-clause-knows : goal.returns-in-Fault-clause-knows
returns-in-Fault-clause-knows g c = λ fine.
    let kept = fault-of c.act_world.result c.in-Err.stop c.in-Fault.fault _ c.in-Err.is c.in-Fault.is c.act_world.ensures.same in
    subst (λ (ends : List ℕ). Knows c.args.agenda.now.soon c.args.agenda.now.next ends)
    (sym (ap (map (λ n. n.clock + n.idle)) kept.1 ∙ c.catch_up.ensures.ends)) c.requires.knows

pub returns-in-Fault-clause-live : goal.returns-in-Fault-clause-live
returns-in-Fault-clause-live g c = λ fine live.
    let kept = fault-of c.act_world.result c.in-Err.stop c.in-Fault.fault _ c.in-Err.is c.in-Fault.is c.act_world.ensures.same in
    subst (HasLive c.args.live.now) (sym kept.2) live

-- ---- there is no memory

pub set_clocks-requires-in-Memory-clause-near : goal.set_clocks-requires-in-Memory-clause-near
set_clocks-requires-in-Memory-clause-near g c = λ k. (c.first.ensures k).0

pub set_clocks-requires-in-Memory-clause-others : goal.set_clocks-requires-in-Memory-clause-others
set_clocks-requires-in-Memory-clause-others g c = λ k within out.
    absurd (out ((c.first.ensures k).1 (omega (arith, within, length-map c.act_world.new.machines (λ n. n.clock)))))

pub returns-in-Memory-clause-memory : goal.returns-in-Memory-clause-memory
returns-in-Memory-clause-memory g c = λ none.
    let said = memory-of c.act_world.result c.in-Err.stop c.in-Memory.stop _ c.in-Err.is c.in-Memory.is c.act_world.ensures.memory in
    subst (λ (xs : List PortNode). (d : ℕ) (t : Timing) → act_fault c.args.act.now
    (world_record d t c.args.cabling.now xs c.args.wires.now c.args.changed.now c.args.turns) ≡ None) c.catch_up.ensures.nodes said

pub returns-in-Memory-clause-knows : goal.returns-in-Memory-clause-knows
returns-in-Memory-clause-knows g c = λ fine. absurd (fine tt)

pub returns-in-Memory-clause-live : goal.returns-in-Memory-clause-live
returns-in-Memory-clause-live g c = λ fine. absurd (fine tt)
