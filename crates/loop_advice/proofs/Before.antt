-- What stands before a cable in a rising list.
use Rattle.std.proofs.Common.{◌≡◌, ℕ, ◌<◌, inl, inr, Bool, List, [], ◌∷◌, ◌++◌, sym, subst, ap, arith}
use Rattle.std.proofs.lemmas.Bool.{cases_lt, cases_eq}
use Rattle.cabling.specs.declared.cable.End.{End}
use Rattle.cabling.specs.declared.cable.Cable.{Cable}
use Rattle.cabling.specs.Wiring.{Wiring}
use Rattle.loop_advice.specs.Cables.{turned, IsSame, Lists, NoneLeadsOut, AreJoined}
use Rattle.loop_advice.specs.Order.{ComesBefore, ComesBeforeAll, AreRising, AreInOrder}
use Rattle.loop_advice.specs.Advised.{IsLowFirst, IsAdvised}
use Rattle.loop_advice.specs.codings.Collected.{AllComeBefore}
use Rattle.loop_advice.proofs.Listed.{lists_append, lists_left, lists_turned}
use Rattle.loop_advice.proofs.Collecting.{before_along, not_before}

before_at : (e : End) (xs : List Cable) (y : Cable) (ys : List Cable) →
    ComesBeforeAll e (xs ++ y ∷ ys) → ComesBefore e y.a
before_at e [] y ys h = h.0
before_at e (x ∷ xs) y ys h = before_at e xs y ys h.1

-- the first part of a rising list comes before what follows
pub rising_before : (xs : List Cable) (y : Cable) (ys : List Cable) → AreRising (xs ++ y ∷ ys) →
    AllComeBefore xs y.a
rising_before [] y ys r = tt
rising_before (x ∷ xs) y ys r = (before_at x.a xs y ys r.1, rising_before xs y ys r.2)

before_to : (e : End) (xs ys : List Cable) → ComesBeforeAll e (xs ++ ys) → ComesBeforeAll e xs
before_to e [] ys h = tt
before_to e (x ∷ xs) ys h = (h.0, before_to e xs ys h.1)

pub rising_to : (xs ys : List Cable) → AreRising (xs ++ ys) → AreRising xs
rising_to [] ys r = tt
rising_to (x ∷ xs) ys r = (r.0, before_to x.a xs ys r.1, rising_to xs ys r.2)

pub rising_from : (xs ys : List Cable) → AreRising (xs ++ ys) → AreRising ys
rising_from [] ys r = r
rising_from (x ∷ xs) ys r = rising_from xs ys r.2

-- the other way round a cable isn't the same with its lower end first
not_turned : (x z : Cable) → x.a.node < x.b.node → z.a.node < z.b.node → z ≡ turned x → ⊥
not_turned x z p q e =
    let a : z.a.node ≡ x.b.node = ap (λ (y : Cable). y.a.node) e in
    let b : z.b.node ≡ x.a.node = ap (λ (y : Cable). y.b.node) e in
    omega (arith, p, q, a, b)

pub same_low : (x z : Cable) → x.a.node < x.b.node → z.a.node < z.b.node → IsSame z x → z ≡ x
same_low x z p q (inl e) = e
same_low x z p q (inr e) = absurd (not_turned x z p q e)

comes_before : (xs : List Cable) (e : End) (z : Cable) → AllComeBefore xs e → AreRising xs →
    Lists xs z → z.a.node < z.b.node → ComesBefore z.a e
comes_before [] e z h r l low = absurd l
comes_before (x ∷ xs) e z h r (inl (inl s)) low = subst (λ (y : Cable). ComesBefore y.a e) (sym s) h.0
comes_before (x ∷ xs) e z h r (inl (inr s)) low = absurd (not_turned x z r.0 low s)
comes_before (x ∷ xs) e z h r (inr l) low = comes_before xs e z h.1 r.2 l low

comes_after : (xs : List Cable) (e : End) (z : Cable) → ComesBeforeAll e xs → AreRising xs →
    Lists xs z → z.a.node < z.b.node → ComesBefore e z.a
comes_after [] e z h r l low = absurd l
comes_after (x ∷ xs) e z h r (inl (inl s)) low = subst (λ (y : Cable). ComesBefore e y.a) (sym s) h.0
comes_after (x ∷ xs) e z h r (inl (inr s)) low = absurd (not_turned x z r.0 low s)
comes_after (x ∷ xs) e z h r (inr l) low = comes_after xs e z h.1 r.2 l low

-- it is enough to look at each cable with its lower end first
by_lower : (xs : List Cable) (test : ℕ → Bool) →
    ((z : Cable) → Lists xs z → z.a.node < z.b.node → test z.a.node ≡ test z.b.node) →
    NoneLeadsOut xs test
by_lower xs test h z l = elim (cases_lt z.a.node z.b.node) [
  | inl low ↦ h z l low
  | inr high ↦ elim (cases_eq z.a.node z.b.node) [
    | inl same ↦ ap test same
    | inr ne ↦ sym (h (turned z) (lists_turned xs z l) (omega (arith, high, ne)))
  ]
]

-- a cable that stands before another one is in the part before it
in_done : (c : Wiring) (set : ℕ) (done : List Cable) (x : Cable) (rest : List Cable) (z : Cable) →
    AreInOrder c set (done ++ x ∷ rest) → IsLowFirst c set z → ComesBefore z.a x.a → Lists done z
in_done c set done x rest z order is before =
    let rise : AreRising (x ∷ rest) = rising_from done (x ∷ rest) order.rising in
    elim (lists_append done (x ∷ rest) z ((order.each.all z).1 is.of_set)) [
      | inl l ↦ l
      | inr r ↦ elim r [
        | inl s ↦ absurd (elim s [
          | inl e ↦ not_before x.a (subst (λ (y : Cable). ComesBefore y.a x.a) e before)
          | inr e ↦ not_turned x z rise.0 is.low e
        ])
        | inr l ↦ absurd (not_before x.a (before_along x.a z.a x.a (comes_after rest x.a z rise.1 rise.2 l is.low) before))
      ]
    ]

-- a cable is advised where those before it in the list join its nodes
pub joined_by : (c : Wiring) (set : ℕ) (done : List Cable) (x : Cable) (rest : List Cable) →
    AreInOrder c set (done ++ x ∷ rest) → IsAdvised c set x → AreJoined done x.a.node x.b.node
joined_by c set done x rest order advised test none = advised test (λ z is before. none z (in_done c set done x rest z order is before))

pub advised_by : (c : Wiring) (set : ℕ) (done : List Cable) (x : Cable) (rest : List Cable) →
    AreInOrder c set (done ++ x ∷ rest) → AreJoined done x.a.node x.b.node → IsAdvised c set x
advised_by c set done x rest order joined test none =
    joined test (by_lower done test (λ z l low.
    none z (record { of_set = (order.each.all z).0 (lists_left done (x ∷ rest) z l); low = low })
    (comes_before done x.a z (rising_before done x rest order.rising) (rising_to done (x ∷ rest) order.rising) l low)))
