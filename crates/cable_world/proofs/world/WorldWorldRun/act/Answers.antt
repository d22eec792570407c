use Rattle.std.proofs.Common.{◌≡◌, ◌∙◌, List, None, length, map, ap, sym, subst}
use Rattle.std.proofs.lemmas.List.{with_items_is}
use Rattle.std.proofs.Math.Logic.{∥∥₁_map}
use Rattle.cable_world.specs.Wire.{Wire}
use Rattle.cable_world.specs.World.{CableWorld}
use Rattle.cable_world.specs.Act.{ActLeads, act_fault}
use Rattle.cable_world.specs.Run.{IsReached}
use Rattle.cable_world.specs.Parts.{world_record}
use Rattle.cable_world.proofs.StaysReached.{act-reached}
use Rattle.cable_world.proofs.running.Whole.{lawful-now, vectors-related, vectors-same, settled}
use Rattle.cable_world.proofs.world.WorldWorldRun.act.Goals as goal

pub act_world-done-requires-clause-lawful : goal.act_world-done-requires-clause-lawful
act_world-done-requires-clause-lawful g c =
    let self = c.args.self.now in
    let f = g.M.PortMachine.record_of in
    let now = lawful-now (world_record self.delay self.longest self.cabling (map f self.machines.items) self.wires.items self.changed.items self.turns) (self.reached c.if-self.false) in
    (self.delay, self.longest, rw (c.deref_mut.ensures.value, c.deref_mut-2.ensures.value, c.deref_mut-3.ensures.value) now)

pub invariant_of-self : goal.invariant_of-self
invariant_of-self g c =
    let self = c.args.self.now in
    let f = g.M.PortMachine.record_of in
    let act = c.args.act.now in
    let w : CableWorld = world_record self.delay self.longest self.cabling (map f self.machines.items) self.wires.items self.changed.items self.turns in
    let new = c.act_world-done.new in
    let auto = c.act_world-done.auto in
    let said = c.act_world-done.ensures in
    let ms = with_items_is self.machines new.machines (auto.machines ∙ c.deref_mut.ensures.len) in
    let ws = with_items_is self.wires new.wires (auto.wires ∙ c.deref_mut-2.ensures.len) in
    let cs = with_items_is self.changed new.changed (auto.changed ∙ c.deref_mut-3.ensures.len) in
    record {
      reached = λ fine. settled c.act_world-done.result c.is_memory-self.result c.is_memory-self.ensures fine said.done said.accepted said.rows said.same
          (λ done accepted rows.
          let led = vectors-related (λ u v. (act_fault act u ≡ None) × ActLeads act u v) f f self.delay self.longest self.cabling new.cabling self.turns self.turns self.machines self.wires self.changed
          c.deref_mut.result.now new.machines c.deref_mut-2.result.now new.wires c.deref_mut-3.result.now new.changed
          (c.deref_mut.ensures.value, c.deref_mut.ensures.len, auto.machines)
          (c.deref_mut-2.ensures.value, c.deref_mut-2.ensures.len, auto.wires)
          (c.deref_mut-3.ensures.value, c.deref_mut-3.ensures.len, auto.changed) (accepted self.delay self.longest, done self.delay self.longest) in
          ∥∥₁_map (self.reached c.if-self.false) (act-reached act w _ (c.requires, led.0, led.1)))
          (λ same. subst (λ v. ∥ IsReached v ∥₁) (sym (
          vectors-same f self.delay self.longest self.cabling new.cabling self.turns self.machines self.wires self.changed
          c.deref_mut.result.now new.machines c.deref_mut-2.result.now new.wires c.deref_mut-3.result.now new.changed
          (c.deref_mut.ensures.value, c.deref_mut.ensures.len, auto.machines)
          (c.deref_mut-2.ensures.value, c.deref_mut-2.ensures.len, auto.wires)
          (c.deref_mut-3.ensures.value, c.deref_mut-3.ensures.len, auto.changed) same)) (self.reached c.if-self.false));
      marks = ap length cs ∙ auto.changed ∙ ap length c.deref_mut-3.ensures.value ∙ self.marks ∙ sym (ap length ms ∙ auto.machines ∙ ap length c.deref_mut.ensures.value);
      same = λ fine. self.same c.if-self.false ∙ sym (ap (λ (l : List (List Wire)). map length l) ws
          ∙ settled c.act_world-done.result c.is_memory-self.result c.is_memory-self.ensures fine said.done said.accepted said.rows said.same
          (λ done accepted rows. rows) (λ same. ap (λ (l : List (List Wire)). map length l) same.2) ∙ ap (λ (l : List (List Wire)). map length l) c.deref_mut-2.ensures.value);
    }
