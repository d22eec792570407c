use Rattle.std.proofs.Common.{◌≡◌, ◌∙◌, ◌<◌, [], length, map, ap, sym, subst, arith}
use Rattle.std.proofs.lemmas.List.{get_or_default}
use Rattle.std.proofs.Math.Logic.{∥∥₁_map}
use Rattle.cable_world.specs.World.{wire_of}
use Rattle.cable_world.specs.Run.{IsReached}
use Rattle.cable_world.specs.Parts.{world_record}
use Rattle.cable_world.proofs.StaysReached.{hold-reached}
use Rattle.cable_world.proofs.tables.TablesInActs.{has-wire}
use Rattle.cable_world.proofs.running.Whole.{lawful-now, held-is, put-long}
use Rattle.cable_world.proofs.world.WorldWorldRun.hold.Goals as goal

pub index_mut-requires : goal.index_mut-requires
index_mut-requires g c =
    let self = c.args.self.now in
    let w = world_record self.delay self.longest self.cabling (map g.M.PortMachine.record_of self.machines.items) self.wires.items self.changed.items self.turns in
    let l = lawful-now w (self.reached c.if-self.false) in
    omega (arith, c.in_default.ensures.exists.node, l.well_formed.wire_rows, self.wires.ok.0)

pub hold-requires : goal.hold-requires
hold-requires g c =
    let self = c.args.self.now in
    let end = c.args.end in
    let w = world_record self.delay self.longest self.cabling (map g.M.PortMachine.record_of self.machines.items) self.wires.items self.changed.items self.turns in
    let l = lawful-now w (self.reached c.if-self.false) in
    let entry = has-wire w end l.well_formed c.in_default.ensures.exists in
    let row = c.index_mut.ensures.value ∙ get_or_default self.wires.items end.node c.index_mut.result.now [] entry.node in
    omega (arith, entry.port, ap length row)

pub invariant_of-self : goal.invariant_of-self
invariant_of-self g c =
    let self = c.args.self.now in
    let end = c.args.end in
    let w = world_record self.delay self.longest self.cabling (map g.M.PortMachine.record_of self.machines.items) self.wires.items self.changed.items self.turns in
    let l = lawful-now w (self.reached c.if-self.false) in
    let inside : end.node < length self.wires.items = omega (arith, c.in_default.ensures.exists.node, l.well_formed.wire_rows) in
    let made = held-is self.wires.items end c.args.turns c.index_mut.result.now c.hold.new.self inside c.index_mut.ensures.value c.hold.ensures in
    let held = record (wire_of w end) { held = c.args.turns } in
    record {
      reached = λ fine. subst (λ rows. ∥ IsReached (record w { wires = rows }) ∥₁) (sym made)
          (∥∥₁_map (self.reached fine) (hold-reached end c.args.turns w c.in_default.ensures.accepted));
      marks = self.marks;
      same = λ fine. self.same fine ∙ sym (ap (λ rows. map length rows) made ∙ put-long self.wires.items end held);
    }
