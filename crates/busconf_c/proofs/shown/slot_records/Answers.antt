use Rattle.std.proofs.Common.{◌≡◌, ℕ, ◌<◌, ◌≤◌, List, length, get_or, ap, subst, ◌∙◌, arith, Bool, true, false, leb, refl, get_or-set_other, length-set}
use Rattle.std.proofs.lemmas.Bool.{leb-true, leb-false}
use Rattle.self_id.specs.declared.node.PortStatus.{PortStatus}
use Rattle.self_id.specs.declared.node.PortStatus.TheVariants.{Absent}
use Rattle.self_id.specs.Node.{Node}
use Rattle.c_records.specs.Shown.{slot_record, no_slot, IsSlotOf}
use Rattle.c_records.proofs.Lemmas.{written, replicated}
use Rattle.c_records.proofs.Lemmas.{slot_of, slot_past}
use Rattle.busconf_c.proofs.shown.slot_records.Goals as goal

pub loop-slot-init : goal.loop-slot-init
loop-slot-init c = record { whole = refl; below = λ k d lt. absurd (omega arith); above = λ k le. replicated 27 k no_slot }

pub loop-slot-preserved : goal.loop-slot-preserved
loop-slot-preserved c =
    let ports : c.as_slice-ports.result.now ≡ c.node.result.now.ports = c.as_slice-ports.ensures.value ∙ ap (λ (n : Node). n.ports) c.behind-tree.view_is in
    let here : IsSlotOf c.args.tree.now c.args.id c.loop-slot.slot c.slot_record.result =
    slot_of c.args.tree.now c.args.id c.loop-slot.slot c.node.result.now c.far.result c.slot_record.result c.node.ensures
    (subst (λ (l : List PortStatus). c.loop-slot.slot < length l) ports c.loop-slot-test.true) c.far.ensures.end
    (c.slot_record.ensures ∙ ap (λ (l : List PortStatus). slot_record (get_or l c.loop-slot.slot Absent) c.far.result) ports) in
    record {
      whole = length-set c.loop-slot.slots c.loop-slot.slot c.slot_record.result ∙ c.loop-slot.invariant.whole;
      below = written (λ k r. IsSlotOf c.args.tree.now c.args.id k r) c.loop-slot.slots c.loop-slot.slot c.slot_record.result (omega (arith, c.loop-slot.invariant.whole)) c.loop-slot.invariant.below here;
      above = λ k le. let other : k ≡ c.loop-slot.slot → ⊥ = λ e. omega (arith, e) in rw (get_or-set_other c.loop-slot.slots c.loop-slot.slot k c.slot_record.result no_slot other) (c.loop-slot.invariant.above k (omega arith));
    }

pub returns : goal.returns
returns c = λ k lt. at k (leb (length c.as_slice-ports.result.now) k) refl
  where
    ports : c.as_slice-ports.result.now ≡ c.node.result.now.ports
    ports = c.as_slice-ports.ensures.value ∙ ap (λ (n : Node). n.ports) c.behind-tree.view_is

    at : (k : ℕ) (past : Bool) → leb (length c.as_slice-ports.result.now) k ≡ past → IsSlotOf c.args.tree.now c.args.id k (get_or c.loop-slot.slots k no_slot)
    at k true e = slot_past c.args.tree.now c.args.id k c.node.result.now _ c.node.ensures (subst (λ (l : List PortStatus). length l ≤ k) ports (leb-true _ _ e)) (c.loop-slot.invariant.above k (omega (arith, leb-true _ _ e)))
    at k false e = c.loop-slot.invariant.below k no_slot (omega (arith, leb-false _ _ e, c.loop-slot-test.false))
