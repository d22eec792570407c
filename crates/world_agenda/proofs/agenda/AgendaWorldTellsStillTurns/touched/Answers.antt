use Rattle.std.proofs.Common.{◌+◌, ℕ, List, map, subst, inl, inr}
use Rattle.port_state.specs.Machine.{PortNode}
use Rattle.cable_world.specs.Wire.{Wire}
use Rattle.cable_world.specs.World.{CableWorld}
use Rattle.cable_world.specs.Lawful.{IsLawful}
use Rattle.cable_world.specs.Parts.{world_record}
use Rattle.world_agenda.specs.declared.node.AgendaNode.{AgendaNode}
use Rattle.world_agenda.specs.Agenda.{IdlesBut}
use Rattle.world_agenda.specs.Alone.{TickBut}
use Rattle.world_agenda.specs.Clock.{caught_up}
use Rattle.world_agenda.specs.Heard.{AwaitNoneBut}
use Rattle.world_agenda.proofs.Whole.{lawful-now}
use Rattle.world_agenda.proofs.Alone.{alone-but}
use Rattle.world_agenda.proofs.agenda.AgendaWorldTellsStillTurns.touched.Goals as goal

pub awaiting-heard-requires-clause-nodes : goal.awaiting-heard-requires-clause-nodes
awaiting-heard-requires-clause-nodes g c =
    let self = c.args.self.now in
    let f : AgendaNode g.row.M.Denot g.M.PortMachine → PortNode = λ n. caught_up self.turns n.clock (g.M.PortMachine.record_of n.machine) in
    let w : CableWorld = world_record self.delay self.longest self.cabling (map f self.nodes.items) self.wires.items self.changed.items self.turns in
    let lawful : IsLawful w = lawful-now w c.worlds_stay_lawful.ensures.reached (self.reached c.if-self.false) in
    rw c.deref-2.ensures.value lawful.well_formed.wire_rows

pub returns : goal.returns
returns g c fine k x at out =
    let self = c.args.self.now in
    let f : AgendaNode g.row.M.Denot g.M.PortMachine → PortNode = λ n. caught_up self.turns n.clock (g.M.PortMachine.record_of n.machine) in
    let ends : AgendaNode g.row.M.Denot g.M.PortMachine → ℕ = λ n. n.clock + n.idle in
    let w : CableWorld = world_record self.delay self.longest self.cabling (map f self.nodes.items) self.wires.items self.changed.items self.turns in
    let lawful : IsLawful w = lawful-now w c.worlds_stay_lawful.ensures.reached (self.reached c.if-self.false) in
    alone-but (λ n. g.M.PortMachine.record_of n.machine) (λ n. n.clock) (λ n. n.idle) (λ n. n.rests) self.turns self.nodes.items (self.behind c.if-self.false)
    c.due_nodes-due.result c.awaiting-heard.result c.missing.result c.union-2.result self.delay self.longest self.cabling self.wires.items self.changed.items
    lawful.well_formed.cabling
    (subst (λ ns. IdlesBut c.due_nodes-due.result (self.turns + 1) (map ends ns)) c.deref.ensures.value c.due_nodes-due.ensures.due)
    (subst (λ (ws : List (List Wire)). AwaitNoneBut c.awaiting-heard.result ws self.cabling) c.deref-2.ensures.value c.awaiting-heard.ensures)
    (subst (λ ns. TickBut c.missing.result (map f ns)) c.deref-3.ensures.value c.missing.ensures)
    (λ j has. (c.union-2.ensures.members j).1 (elim has [
      | inl one ↦ inl ((c.union.ensures.members j).1 one)
      | inr one ↦ inr one
    ])) k x at out
