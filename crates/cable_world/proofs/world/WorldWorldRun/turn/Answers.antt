use Rattle.std.proofs.Common.{◌∙◌, List, length, map, ap, sym, subst}
use Rattle.std.proofs.lemmas.List.{with_items_is}
use Rattle.std.proofs.Math.Logic.{∥∥₁_map}
use Rattle.cable_world.specs.Wire.{Wire}
use Rattle.cable_world.specs.Run.{IsReached}
use Rattle.cable_world.specs.Parts.{world_record}
use Rattle.cable_world.proofs.StaysReached.{turn-reached}
use Rattle.cable_world.proofs.running.Whole.{lawful-now, short-now, vectors-turn}
use Rattle.cable_world.proofs.world.WorldWorldRun.turn.Goals as goal

pub turn_world-requires-clause-short : goal.turn_world-requires-clause-short
turn_world-requires-clause-short g c =
    let self = c.args.self.now in
    short-now (world_record self.delay self.longest self.cabling (map g.M.PortMachine.record_of self.machines.items) self.wires.items self.changed.items self.turns) (self.reached c.if-self.false)

pub turn_world-requires-clause-lawful : goal.turn_world-requires-clause-lawful
turn_world-requires-clause-lawful g c =
    let self = c.args.self.now in
    let f = g.M.PortMachine.record_of in
    let now = lawful-now (world_record self.delay self.longest self.cabling (map f self.machines.items) self.wires.items self.changed.items self.turns) (self.reached c.if-self.false) in
    (self.longest, rw (c.deref_mut.ensures.value, c.deref_mut-2.ensures.value, c.deref_mut-3.ensures.value) now)

pub turn_world-requires-clause-same : goal.turn_world-requires-clause-same
turn_world-requires-clause-same g c =
    rw (c.deref_mut-4.ensures.value, c.deref_mut-2.ensures.value) (c.args.self.now.same c.if-self.false)

pub invariant_of-self-2 : goal.invariant_of-self-2
invariant_of-self-2 g c =
    let self = c.args.self.now in
    let f = g.M.PortMachine.record_of in
    let w = world_record self.delay self.longest self.cabling (map f self.machines.items) self.wires.items self.changed.items self.turns in
    let new = c.turn_world.new in
    let auto = c.turn_world.auto in
    let ms = with_items_is self.machines new.machines (auto.machines ∙ c.deref_mut.ensures.len) in
    let ws = with_items_is self.wires new.wires (auto.wires ∙ c.deref_mut-2.ensures.len) in
    let cs = with_items_is self.changed new.changed (auto.changed ∙ c.deref_mut-3.ensures.len) in
    let arr = with_items_is self.arrivals new.arrivals (auto.arrivals ∙ c.deref_mut-4.ensures.len) in
    record {
      reached = λ fine. subst (λ v. ∥ IsReached v ∥₁)
          (sym (vectors-turn f self.delay self.longest self.cabling self.turns self.machines self.wires self.changed
          c.deref_mut.result.now new.machines c.deref_mut-2.result.now new.wires c.deref_mut-3.result.now new.changed
          (c.deref_mut.ensures.value, c.deref_mut.ensures.len, auto.machines)
          (c.deref_mut-2.ensures.value, c.deref_mut-2.ensures.len, auto.wires)
          (c.deref_mut-3.ensures.value, c.deref_mut-3.ensures.len, auto.changed) (c.in_ok-turn_world.ensures.done self.longest)))
          (∥∥₁_map (self.reached c.if-self.false) (turn-reached w));
      marks = ap length cs ∙ auto.changed ∙ ap length c.deref_mut-3.ensures.value ∙ self.marks ∙ sym (ap length ms ∙ auto.machines ∙ ap length c.deref_mut.ensures.value);
      same = λ fine. ap (λ (l : List (List _)). map length l) arr ∙ c.in_ok-turn_world.ensures.same ∙ ap (λ (l : List (List Wire)). map length l) (sym ws);
    }

pub returns-clause-done : goal.returns-clause-done
returns-clause-done g c =
    let self = c.args.self.now in
    let f = g.M.PortMachine.record_of in
    let new = c.turn_world.new in
    let auto = c.turn_world.auto in
    vectors-turn f self.delay self.longest self.cabling self.turns self.machines self.wires self.changed
    c.deref_mut.result.now new.machines c.deref_mut-2.result.now new.wires c.deref_mut-3.result.now new.changed
    (c.deref_mut.ensures.value, c.deref_mut.ensures.len, auto.machines)
    (c.deref_mut-2.ensures.value, c.deref_mut-2.ensures.len, auto.wires)
    (c.deref_mut-3.ensures.value, c.deref_mut-3.ensures.len, auto.changed) (c.in_ok-turn_world.ensures.done self.longest)
