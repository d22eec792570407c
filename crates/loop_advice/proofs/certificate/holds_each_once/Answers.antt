use Rattle.std.proofs.Common.{◌≡◌, ℕ, ◌≤◌, length, List, ◌++◌, suc, Some, Bool, true, false, MatchBool, take, drop, slice_get, refl, sym, subst, ap, arith, length-append}
use Rattle.std.proofs.Math.Seq.{take_all}
use Rattle.cabling.specs.declared.cable.Cable.{Cable}
use Rattle.cabling.specs.Wiring.{Wiring, IsCabling}
use Rattle.loop_advice.specs.Cables.{Lists, HasNoneTwice, IsCableOf, HoldsEachOnce}
use Rattle.loop_advice.specs.codings.Marks.{IsMarked, AreMarked}
use Rattle.loop_advice.specs.declared.marks.Marks.{Marks}
use Rattle.loop_advice.proofs.Listed.{take_next, parted, lists_at, once_parts, of_turned, not_true}
use Rattle.loop_advice.proofs.Marking.{Marking, marked_both, marking_next, at_end, few_ports, few_nodes, all_listed, all_marked}
use Rattle.loop_advice.proofs.certificate.holds_each_once.Goals as goal
use Rattle.loop_advice.proofs.certificate.holds_each_once.Goals.{then-not-is_cable_of-via-then-not-is_cable_of, then-not-is_cable_of-via-else-not-is_cable_of+then-has}

-- a cable at a place that is no cable of the set, or whose end is marked
refused : (c : Wiring) (set : ℕ) (m : Marks) (l : List Cable) (i : ℕ) (x : Cable) → IsCabling c →
    slice_get l i ≡ Some x → Marking c set (take i l) m → IsMarked m x.a → HoldsEachOnce c set l → ⊥
refused c set m l i x is at k h each =
    let of : IsCableOf c set x = (each.all x).0 (lists_at l i x at) in
    let before : Lists (take i l) x = at_end c set (take i l) m x k of (few_ports c x.a x.b is of.joined) h in
    once_parts (take i l) x (drop (suc i) l) (subst HasNoneTwice (parted l i x at) each.once) before

pub returns-then-not-is_cable_of : goal.returns-then-not-is_cable_of
returns-then-not-is_cable_of c each = elim c.then-not-is_cable_of.branch [
  | then-not-is_cable_of-via-then-not-is_cable_of w ↦ w.if-not-is_cable_of.ensures ((each.all c.cable_at-cable.result).0 (lists_at _ c.loop-at.at c.cable_at-cable.result c.cable_at-cable.ensures))
  | then-not-is_cable_of-via-else-not-is_cable_of+then-has w ↦ refused c.args.cabling.now c.args.set c.loop-at.marks _ c.loop-at.at c.cable_at-cable.result c.cables_are_two_ended.ensures c.cable_at-cable.ensures c.loop-at.invariant (w.if-has.ensures.0 refl) each
]

pub insert-requires-in-loop-at-clause-node : goal.insert-requires-in-loop-at-clause-node
insert-requires-in-loop-at-clause-node c = few_nodes c.args.cabling.now c.cable_at-cable.result.b c.cable_at-cable.result.a c.cables_are_two_ended.ensures (of_turned c.args.cabling.now c.args.set c.cable_at-cable.result c.cables_are_two_ended.ensures c.requires.closed c.if-not-is_cable_of.ensures).joined

pub insert-requires-in-loop-at-clause-port : goal.insert-requires-in-loop-at-clause-port
insert-requires-in-loop-at-clause-port c = few_ports c.args.cabling.now c.cable_at-cable.result.b c.cable_at-cable.result.a c.cables_are_two_ended.ensures (of_turned c.args.cabling.now c.args.set c.cable_at-cable.result c.cables_are_two_ended.ensures c.requires.closed c.if-not-is_cable_of.ensures).joined

pub loop-at-preserved : goal.loop-at-preserved
loop-at-preserved c =
    let l : List Cable = c.args.advice.now.pulls ++ c.args.advice.now.kept in
    subst (λ (zs : List Cable). Marking c.args.cabling.now c.args.set zs c.insert-in-loop-at.new.self) (sym (take_next (c.args.advice.now.pulls ++ c.args.advice.now.kept) c.loop-at.at c.cable_at-cable.result c.cable_at-cable.ensures))
    (marking_next c.args.cabling.now c.args.set (take c.loop-at.at (c.args.advice.now.pulls ++ c.args.advice.now.kept)) c.loop-at.marks c.insert-in-loop-at.new.self c.cable_at-cable.result
    c.cables_are_two_ended.ensures c.requires.closed c.loop-at.invariant c.if-not-is_cable_of.ensures (λ h. not_true (c.if-has.ensures.1 h))
    (marked_both c.loop-at.marks c.insert.new.self c.insert-in-loop-at.new.self c.cable_at-cable.result c.insert.ensures.held c.insert.ensures.others c.insert-in-loop-at.ensures.held c.insert-in-loop-at.ensures.others))

last : (c : Wiring) (set : ℕ) (m : Marks) (l : List Cable) (i : ℕ) (b : Bool) → IsCabling c →
    length l ≤ i → Marking c set (take i l) m →
    MatchBool b (AreMarked c m set) (AreMarked c m set → ⊥) →
    MatchBool b (HoldsEachOnce c set l) (HoldsEachOnce c set l → ⊥)
last c set m l i true is h k p = all_listed c set l m is (subst (λ (zs : List Cable). Marking c set zs m) (take_all i l h) k) p
last c set m l i false is h k p = λ each. p (all_marked c set l m (subst (λ (zs : List Cable). Marking c set zs m) (take_all i l h) k) each)

pub returns : goal.returns
returns c = last c.args.cabling.now c.args.set c.loop-at.marks (c.args.advice.now.pulls ++ c.args.advice.now.kept) c.loop-at.at c.are_marked.result c.cables_are_two_ended.ensures (omega (arith, c.loop-at-test.false, length-append c.args.advice.now.pulls c.args.advice.now.kept, ap length c.as_slice.ensures, ap length c.as_slice-2.ensures)) c.loop-at.invariant c.are_marked.ensures
