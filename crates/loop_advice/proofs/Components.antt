-- A node has one component.
use Rattle.std.proofs.Common.{◌≡◌, ℕ, zero, suc, inl, inr, ◌↔◌, List, refl, sym, ◌∙◌, arith}
use Rattle.std.specs.Int.{bit_at}
use Rattle.cabling.specs.declared.cable.Cable.{Cable}
use Rattle.cabling.specs.Wiring.{Wiring}
use Rattle.cabling.specs.NodeSet.{Holds, size_below}
use Rattle.cabling.specs.Component.{IsComponent}
use Rattle.cabling.proofs.Lemmas.{clear_bit, holds_or_not}
use Rattle.loop_advice.specs.Cables.{IsCableOf, HoldsEachOnce}
use Rattle.loop_advice.specs.Order.{AreInOrder}

abbrev pub HaveTheSame : ℕ → ℕ → Type 0
HaveTheSame set other = (x : ℕ) → Holds set x ↔ Holds other x

pub one_component : (c : Wiring) (node set other : ℕ) → IsComponent c node set →
    IsComponent c node other → HaveTheSame set other
one_component c node set other s o x = (s.least other o.holds o.closed x, o.least set s.holds s.closed x)

same_bit : (set other x : ℕ) → HaveTheSame set other → bit_at set x ≡ bit_at other x
same_bit set other x h = elim (holds_or_not set x) [
  | inl a ↦ a ∙ sym ((h x).0 a)
  | inr n ↦ clear_bit set x n ∙ sym (clear_bit other x (λ o. n ((h x).1 o)))
]

pub same_size : (set other n : ℕ) → HaveTheSame set other → size_below set n ≡ size_below other n
same_size set other zero h = refl
same_size set other (suc n) h = omega (arith, same_size set other n h, same_bit set other n h)

pub of_other : (c : Wiring) (set other : ℕ) (x : Cable) → HaveTheSame set other →
    IsCableOf c set x → IsCableOf c other x
of_other c set other x h of = record { joined = of.joined; here = (h x.a.node).0 of.here }

pub same_each : (c : Wiring) (set other : ℕ) (cables : List Cable) → HaveTheSame set other →
    HoldsEachOnce c set cables → HoldsEachOnce c other cables
same_each c set other cables h each = record {
  once = each.once;
  all = λ x. (
    (λ l. of_other c set other x h ((each.all x).0 l)),
    (λ of. (each.all x).1 (of_other c other set x (λ y. ((h y).1, (h y).0)) of)),
  );
}

pub same_order : (c : Wiring) (set other : ℕ) (cables : List Cable) → HaveTheSame set other →
    AreInOrder c set cables → AreInOrder c other cables
same_order c set other cables h order = record { each = same_each c set other cables h order.each; rising = order.rising }
