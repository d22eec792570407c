use Rattle.std.proofs.Common.{◌≡◌, ℕ, ◌<◌, ◌≤◌, List, length, get_or, ap, subst, ◌∙◌, arith, Bool, true, false, leb, refl, get_or-set_other, length-set}
use Rattle.std.specs.Prelude.{Some, slice_get}
use Rattle.std.proofs.lemmas.Bool.{leb-true, leb-false}
use Rattle.self_id.specs.declared.node.PortStatus.{PortStatus}
use Rattle.self_id.specs.declared.node.PortStatus.TheVariants.{Absent}
use Rattle.self_id.specs.Node.{Node}
use Rattle.topology_stack.specs.Tree.{Tree}
use Rattle.topology_stack.specs.Stored.{ends_of}
use Rattle.c_records.specs.Shown.{slot_record, no_slot, IsSlotOf}
use Rattle.c_records.proofs.Lemmas.{written, replicated}
use Rattle.heapless_c.specs.Reading.{IsPlaced}
use Rattle.heapless_c.proofs.Placed.{placed_slot, placed_past}
use Rattle.heapless_c.proofs.shown.slot_records.Goals as goal

pub loop-slot-init : goal.loop-slot-init
loop-slot-init c = record { whole = refl; below = λ t id p k d lt. absurd (omega arith); above = λ k le. replicated 27 k no_slot }

pub loop-slot-preserved : goal.loop-slot-preserved
loop-slot-preserved c =
    let ports : c.as_slice-ports.result.now ≡ c.args.node.now.ports = c.as_slice-ports.ensures.value ∙ ap (λ (n : Node). n.ports) c.node.view_is in
    let here : (t : Tree) (id : ℕ) → IsPlaced t id c.args.node.now c.args.parent c.args.children.now → IsSlotOf t id c.loop-slot.slot c.slot_record.result =
    λ t id p. placed_slot t id c.loop-slot.slot c.args.node.now c.args.parent c.args.children.now c.far_end.result c.slot_record.result p
    (subst (λ (l : List PortStatus). c.loop-slot.slot < length l) ports c.loop-slot-test.true)
    (subst (λ (l : List PortStatus). slice_get (ends_of c.args.parent c.args.children.now l) c.loop-slot.slot ≡ Some c.far_end.result) ports c.far_end.ensures)
    (c.slot_record.ensures ∙ ap (λ (l : List PortStatus). slot_record (get_or l c.loop-slot.slot Absent) c.far_end.result) ports) in
    record {
      whole = length-set c.loop-slot.slots c.loop-slot.slot c.slot_record.result ∙ c.loop-slot.invariant.whole;
      below = λ t id p. written (λ k r. IsSlotOf t id k r) c.loop-slot.slots c.loop-slot.slot c.slot_record.result (omega (arith, c.loop-slot.invariant.whole)) (c.loop-slot.invariant.below t id p) (here t id p);
      above = λ k le. let other : k ≡ c.loop-slot.slot → ⊥ = λ e. omega (arith, e) in rw (get_or-set_other c.loop-slot.slots c.loop-slot.slot k c.slot_record.result no_slot other) (c.loop-slot.invariant.above k (omega arith));
    }

pub returns : goal.returns
returns c = λ t id p k lt. at t id p k (leb (length c.as_slice-ports.result.now) k) refl
  where
    ports : c.as_slice-ports.result.now ≡ c.args.node.now.ports
    ports = c.as_slice-ports.ensures.value ∙ ap (λ (n : Node). n.ports) c.node.view_is

    at : (t : Tree) (id : ℕ) → IsPlaced t id c.args.node.now c.args.parent c.args.children.now → (k : ℕ) (past : Bool) → leb (length c.as_slice-ports.result.now) k ≡ past → IsSlotOf t id k (get_or c.loop-slot.slots k no_slot)
    at t id p k true e = placed_past t id k c.args.node.now c.args.parent c.args.children.now _ p (subst (λ (l : List PortStatus). length l ≤ k) ports (leb-true _ _ e)) (c.loop-slot.invariant.above k (omega (arith, leb-true _ _ e)))
    at t id p k false e = c.loop-slot.invariant.below t id p k no_slot (omega (arith, leb-false _ _ e, c.loop-slot-test.false))
