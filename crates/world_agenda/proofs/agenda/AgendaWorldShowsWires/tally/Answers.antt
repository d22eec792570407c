use Rattle.std.proofs.Common.{◌∙◌, List, length, map, ap, sym, subst}
use Rattle.port_state.specs.Machine.{PortNode}
use Rattle.cable_world.specs.Wire.{Wire}
use Rattle.cable_world.specs.World.{CableWorld}
use Rattle.cable_world.specs.Parts.{world_record}
use Rattle.cable_world.specs.Run.{IsReached}
use Rattle.cable_world.proofs.Lemmas.{put-back}
use Rattle.world_agenda.specs.declared.node.AgendaNode.{AgendaNode}
use Rattle.world_agenda.specs.Clock.{caught_up}
use Rattle.world_agenda.specs.Live.{HasLive}
use Rattle.world_agenda.proofs.agenda.AgendaWorldShowsWires.tally.Goals as goal

pub invariant_of-self : goal.invariant_of-self
invariant_of-self g c =
    let self = c.args.self.now in
    let f : AgendaNode g.row.M.Denot g.M.PortMachine → PortNode = λ n. caught_up self.turns n.clock (g.M.PortMachine.record_of n.machine) in
    let w : CableWorld = world_record self.delay self.longest self.cabling (map f self.nodes.items) self.wires.items self.changed.items self.turns in
    let same = put-back self.wires.items c.from-at.result c.index_mut.result.now c.tally.new.self c.index_mut.ensures.value c.tally.ensures in
    record {
      reached = λ fine. subst (λ rows. ∥ IsReached (record w { wires = rows }) ∥₁) (sym same) (self.reached fine);
      early = self.early;
      abreast = self.abreast;
      behind = self.behind;
      idle = self.idle;
      marks = self.marks;
      knows = self.knows;
      slows = self.slows;
      lives = λ fine. subst (HasLive self.live) (sym same) (self.lives fine);
      gives = self.gives;
      same = λ fine. self.same fine ∙ sym (ap (λ (rows : List (List Wire)). map length rows) same);
    }
