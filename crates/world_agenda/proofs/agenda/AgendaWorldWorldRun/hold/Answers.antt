use Rattle.std.proofs.Common.{◌≡◌, ◌∙◌, ◌<◌, [], length, map, ap, sym, subst, arith}
use Rattle.std.proofs.lemmas.List.{get_or_default}
use Rattle.std.proofs.Math.Logic.{∥∥₁_map}
use Rattle.port_state.specs.Machine.{PortNode}
use Rattle.cable_world.specs.World.{CableWorld, wire_of}
use Rattle.cable_world.specs.Parts.{world_record}
use Rattle.world_agenda.specs.declared.node.AgendaNode.{AgendaNode}
use Rattle.world_agenda.specs.Clock.{caught_up}
use Rattle.cable_world.specs.Run.{IsReached}
use Rattle.world_agenda.proofs.LiveRows.{live-set, taken-in}
use Rattle.world_agenda.proofs.Whole.{lawful-now}
use Rattle.world_agenda.proofs.agenda.AgendaWorldWorldRun.hold.Goals as goal
use Rattle.cable_world.proofs.Lemmas.{has-wire, held-is, put-long}

pub index_mut-requires : goal.index_mut-requires
index_mut-requires g c =
    let self = c.args.self.now in
    let f : AgendaNode g.row.M.Denot g.M.PortMachine → PortNode = λ n. caught_up self.turns n.clock (g.M.PortMachine.record_of n.machine) in
    let w : CableWorld = world_record self.delay self.longest self.cabling (map f self.nodes.items) self.wires.items self.changed.items self.turns in
    let l = lawful-now w c.worlds_stay_lawful.ensures.reached (self.reached c.if-self.false) in
    omega (arith, c.in_default.ensures.exists.node, l.well_formed.wire_rows, self.wires.ok.0)

pub hold-requires : goal.hold-requires
hold-requires g c =
    let self = c.args.self.now in
    let f : AgendaNode g.row.M.Denot g.M.PortMachine → PortNode = λ n. caught_up self.turns n.clock (g.M.PortMachine.record_of n.machine) in
    let w : CableWorld = world_record self.delay self.longest self.cabling (map f self.nodes.items) self.wires.items self.changed.items self.turns in
    let end = c.args.end in
    let l = lawful-now w c.worlds_stay_lawful.ensures.reached (self.reached c.if-self.false) in
    let entry = has-wire w end l.well_formed c.in_default.ensures.exists in
    let row = c.index_mut.ensures.value ∙ get_or_default self.wires.items end.node c.index_mut.result.now [] entry.node in
    omega (arith, entry.port, ap length row)

pub invariant_of-self : goal.invariant_of-self
invariant_of-self g c =
    let self = c.args.self.now in
    let f : AgendaNode g.row.M.Denot g.M.PortMachine → PortNode = λ n. caught_up self.turns n.clock (g.M.PortMachine.record_of n.machine) in
    let w : CableWorld = world_record self.delay self.longest self.cabling (map f self.nodes.items) self.wires.items self.changed.items self.turns in
    let end = c.args.end in
    let l = lawful-now w c.worlds_stay_lawful.ensures.reached (self.reached c.if-self.false) in
    let inside : end.node < length self.wires.items = omega (arith, c.in_default.ensures.exists.node, l.well_formed.wire_rows) in
    let made = held-is self.wires.items end c.args.turns c.index_mut.result.now c.hold.new.self inside c.index_mut.ensures.value c.hold.ensures in
    let held = record (wire_of w end) { held = c.args.turns } in
    record {
      reached = λ fine. subst (λ rows. ∥ IsReached (record w { wires = rows }) ∥₁) (sym made)
          (∥∥₁_map (self.reached fine) (c.worlds_stay_reached.ensures.hold end c.args.turns w c.in_default.ensures.accepted));
      early = self.early;
      abreast = self.abreast;
      behind = self.behind;
      idle = self.idle;
      marks = self.marks;
      knows = self.knows;
      slows = self.slows;
      lives = λ fine. live-set self.live c.insert.new.self end.node self.wires.items c.hold.new.self [] inside
          (taken-in self.live c.insert.new.self end.node c.insert.ensures.others c.insert.ensures.holds) c.insert.ensures.others
          (λ out. absurd (out c.insert.ensures.holds)) (self.lives fine);
      gives = self.gives;
      same = λ fine. self.same fine ∙ sym (ap (λ rows. map length rows) made ∙ put-long self.wires.items end held);
    }

pub insert-requires : goal.insert-requires
insert-requires g c =
    let self = c.args.self.now in
    let f : AgendaNode g.row.M.Denot g.M.PortMachine → PortNode = λ n. caught_up self.turns n.clock (g.M.PortMachine.record_of n.machine) in
    let w : CableWorld = world_record self.delay self.longest self.cabling (map f self.nodes.items) self.wires.items self.changed.items self.turns in
    let l = lawful-now w c.worlds_stay_lawful.ensures.reached (self.reached c.if-self.false) in
    omega (arith, c.in_default.ensures.exists.node, l.well_formed.cabling.few_nodes)
