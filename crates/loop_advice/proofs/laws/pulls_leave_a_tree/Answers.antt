use Rattle.std.proofs.Common.{◌≡◌, ℕ, ◌^◌, ◌<◌, inl, inr, eqb, List, Some, sym, ap, ◌∙◌, arith}
use Rattle.std.specs.Int.{bit_at}
use Rattle.std.proofs.lemmas.Bool.Decides.{nat_tests}
use Rattle.cabling.specs.declared.cable.Cable.{Cable}
use Rattle.cabling.specs.Wiring.{Wiring, far, IsCabling}
use Rattle.cabling.specs.NodeSet.{Holds}
use Rattle.cabling.specs.Component.{IsComponent}
use Rattle.cabling.specs.Looped.{IsCore}
use Rattle.cabling.proofs.Lemmas.{clear_bit, holds_or_not}
use Rattle.loop_advice.specs.Cables.{Lists, NoneLeadsOut}
use Rattle.loop_advice.specs.Certificate.{IsCertificate}
use Rattle.loop_advice.specs.Pulled.{ArePulled}
use Rattle.loop_advice.proofs.Listed.{once_apart, lists_right}
use Rattle.loop_advice.proofs.Components.{one_component}
use Rattle.loop_advice.proofs.Without.{no_loop_left}
use Rattle.loop_advice.proofs.laws.pulls_leave_a_tree.Goals as goal

-- a kept cable is still plugged in
still : (old new : Wiring) (node : ℕ) (pulls kept : List Cable) →
    IsCertificate old node pulls kept → ArePulled old new pulls → (x : Cable) → Lists kept x →
    far new x.a ≡ Some x.b
still old new node pulls kept k p x l = (p.left x.a x.b).1 (((k.each.all x).0 (lists_right pulls kept x l)).joined, λ m. once_apart pulls kept x k.each.once m l)

same_test : (set a b : ℕ) → (Holds set a → Holds set b) → (Holds set b → Holds set a) →
    eqb (bit_at set a) 1 ≡ eqb (bit_at set b) 1
same_test set a b to from = elim (holds_or_not set a) [
  | inl h ↦ ap (λ (n : ℕ). eqb n 1) (h ∙ sym (to h))
  | inr n ↦ ap (λ (m : ℕ). eqb m 1) (clear_bit set a n ∙ sym (clear_bit set b (λ h. n (from h))))
]

passes : (n m : ℕ) → n ≡ 1 → eqb n 1 ≡ eqb m 1 → m ≡ 1
passes n m e h = grind (arith, nat_tests)

component : (old new : Wiring) (node : ℕ) (pulls kept : List Cable) (set : ℕ) → IsCabling new →
    IsCertificate old node pulls kept → ArePulled old new pulls → IsComponent old node set →
    IsComponent new node set
component old new node pulls kept set both k p is = record {
  holds = is.holds;
  closed = λ a b e h. is.closed a b ((p.left a b).0 e).0 h;
  least = λ other has closed x h.
      let none : NoneLeadsOut kept (λ y. eqb (bit_at other y) 1) = λ z l.
      let e : far new z.a ≡ Some z.b = still old new node pulls kept k p z l in
      same_test other z.a.node z.b.node (closed z.a z.b e) (closed z.b z.a (both.both_ways z.a z.b e)) in
      let here : Holds k.component x = (one_component old node k.component set k.of_node is x).1 h in
      passes (bit_at other node) (bit_at other x) has (k.join x here (λ y. eqb (bit_at other y) 1) none);
}

pub returns-clause-component : goal.returns-clause-component
returns-clause-component c node pulls kept set k p is = component c.args.old.now c.args.new.now node pulls kept set c.cables_are_two_ended-2.ensures k p is

leaves : (old new : Wiring) (node : ℕ) (pulls kept : List Cable) (set core : ℕ) → set < 2 ^ 63 →
    IsCertificate old node pulls kept → ArePulled old new pulls → IsComponent old node set →
    IsCore new set core → (x : ℕ) → Holds core x → ⊥
leaves old new node pulls kept set core small k p is is_core x h =
    let part = (is_core x).0 h in
    no_loop_left old new node pulls kept set part.0 x small k
    (record { within = λ a b e. ((p.left a b).0 e).0; gone = λ a b e l. ((p.left a b).0 e).1 l })
    is part.1 part.2 part.3

pub returns-clause-no_core : goal.returns-clause-no_core
returns-clause-no_core c node pulls kept set core small k p is is_core x h = leaves c.args.old.now c.args.new.now node pulls kept set core small k p is is_core x h
