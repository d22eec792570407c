use Rattle.std.proofs.Common.{◌∙◌, List, length, map, ap, sym, subst}
use Rattle.cable_world.specs.Wire.{Wire}
use Rattle.cable_world.specs.Run.{IsReached}
use Rattle.cable_world.specs.Parts.{world_record}
use Rattle.cable_world.proofs.running.Whole.{put-back}
use Rattle.cable_world.proofs.world.WorldShowsWires.tally.Goals as goal

pub invariant_of-self : goal.invariant_of-self
invariant_of-self g c =
    let self = c.args.self.now in
    let w = world_record self.delay self.longest self.cabling (map g.M.PortMachine.record_of self.machines.items) self.wires.items self.changed.items self.turns in
    let same = put-back self.wires.items c.from-at.result c.index_mut.result.now c.tally.new.self c.index_mut.ensures.value c.tally.ensures in
    record {
      reached = λ fine. subst (λ rows. ∥ IsReached (record w { wires = rows }) ∥₁) (sym same) (self.reached fine);
      marks = self.marks;
      same = λ fine. self.same fine ∙ sym (ap (λ (rows : List (List Wire)). map length rows) same);
    }
