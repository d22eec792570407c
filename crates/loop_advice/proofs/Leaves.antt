-- Cables without a loop are fewer than the nodes that they are at.
use Rattle.std.proofs.Common.{◌≡◌, ◌≢◌, ℕ, zero, suc, ◌+◌, ◌^◌, ◌<◌, ◌≤◌, ◌⊎◌, inl, inr, Some, List, [], ◌∷◌, length, refl, sym, subst, ap, ◌∙◌, arith}
use Rattle.std.proofs.lemmas.Bool.{cases_eq}
use Rattle.cabling.specs.declared.cable.End.{End}
use Rattle.cabling.specs.declared.cable.Cable.{Cable}
use Rattle.cabling.specs.Wiring.{Wiring, far, IsCabling}
use Rattle.cabling.specs.NodeSet.{Holds, IsWithin, IsEmpty, size_below}
use Rattle.cabling.specs.Looped.{HasTwo, IsCore, HasLeaves}
use Rattle.cabling.proofs.Lemmas.{Less, less_by, less_within, two_of, one_other, same_end}
use Rattle.loop_advice.specs.Cables.{turned, IsSame, Lists, HasNoneTwice}
use Rattle.loop_advice.proofs.Listed.{lists_same, lists_turned, same_back}
use Rattle.loop_advice.proofs.Marking.{cable}
use Rattle.loop_advice.proofs.Sizes.{size_less, size_some}

-- ---- one cable taken out of a list

-- the cables but those with a property, which one has at most
pub record Away (P : Cable → Type 0) (cables : List Cable) : Type 0 where
  pub rest : List Cable
  pub once : HasNoneTwice rest
  pub from : (z : Cable) → Lists rest z → Lists cables z
  pub out : (z : Cable) → Lists rest z → P z → ⊥
  pub few : length cables ≤ suc (length rest)

pub record OneHas (P : Cable → Type 0) (cables : List Cable) : Type 0 where
  pub dec : (z : Cable) → P z ⊎ (P z → ⊥)
  pub alike : (x z : Cable) → IsSame z x → P z → P x
  pub one : (x z : Cable) → Lists cables x → Lists cables z → P x → P z → IsSame z x

away_here : (P : Cable → Type 0) (x : Cable) (xs : List Cable) → OneHas P (x ∷ xs) →
    HasNoneTwice (x ∷ xs) → P x → Away P (x ∷ xs)
away_here P x xs k once p = record {
  rest = xs;
  once = once.1;
  from = λ z l. inr l;
  out = λ z l q. once.0 (lists_same xs z x (same_back z x (k.one x z (inl (inl refl)) (inr l) p q)) l);
  few = omega arith;
}

away_later : (P : Cable → Type 0) (x : Cable) (xs : List Cable) → OneHas P (x ∷ xs) →
    HasNoneTwice (x ∷ xs) → (P x → ⊥) → Away P xs → Away P (x ∷ xs)
away_later P x xs k once no_p a = record {
  rest = x ∷ a.rest;
  once = ((λ l. once.0 (a.from x l)), a.once);
  from = λ z l. elim l [ inl s ↦ inl s | inr m ↦ inr (a.from z m) ];
  out = λ z l q. elim l [ inl s ↦ no_p (k.alike x z s q) | inr m ↦ a.out z m q ];
  few = omega (arith, a.few);
}

pub away : (P : Cable → Type 0) (xs : List Cable) → OneHas P xs → HasNoneTwice xs → Away P xs
away P [] k once = record { rest = []; once = tt; from = λ z l. l; out = λ z l q. l; few = omega arith }
away P (x ∷ xs) k once = elim (k.dec x) [
  | inl p ↦ away_here P x xs k once p
  | inr no_p ↦ away_later P x xs k once no_p (away P xs (record { dec = k.dec; alike = k.alike; one = λ y z l m. k.one y z (inr l) (inr m) }) once.1)
]

-- ---- cables inside a part of the nodes

pub record Inside (c : Wiring) (part : ℕ) (cables : List Cable) : Type 0 where
  pub once : HasNoneTwice cables
  pub joined : (z : Cable) → Lists cables z → far c z.a ≡ Some z.b
  pub here : (z : Cable) → Lists cables z → Holds part z.a.node

abbrev At : ℕ → Cable → Type 0
At node z = (z.a.node ≡ node) ⊎ (z.b.node ≡ node)

at_dec : (node : ℕ) (z : Cable) → At node z ⊎ (At node z → ⊥)
at_dec node z = elim (cases_eq z.a.node node) [
  | inl a ↦ inl (inl a)
  | inr na ↦ elim (cases_eq z.b.node node) [
    | inl b ↦ inl (inr b)
    | inr nb ↦ inr (λ at. elim at [ inl a ↦ na a | inr b ↦ nb b ])
  ]
]

at_alike : (node : ℕ) (x z : Cable) → IsSame z x → At node z → At node x
at_alike node x z (inl e) at = subst (At node) e at
at_alike node x z (inr e) (inl a) = inr (sym (ap (λ (y : Cable). y.a.node) e) ∙ a)
at_alike node x z (inr e) (inr b) = inl (sym (ap (λ (y : Cable). y.b.node) e) ∙ b)

-- two cables with their first ends at a node that has one cable are one
one_at : (c : Wiring) (part node : ℕ) (cables : List Cable) → Inside c part cables →
    (HasTwo c part node → ⊥) → (x z : Cable) → Lists cables x → Lists cables z → x.a.node ≡ node →
    z.a.node ≡ node → z ≡ x
one_at c part node cables k leaf x z l m ax az = elim (cases_eq x.a.port z.a.port) [
  | inl port ↦
      let end : z.a ≡ x.a = same_end z.a x.a (az ∙ sym ax) (sym port) in
      let other : z.b ≡ x.b = one_other (far c z.a) z.b x.b (k.joined z m) (ap (far c) end ∙ k.joined x l) in
      ap (λ (a : End). cable a z.b) end ∙ ap (λ (b : End). cable x.a b) other
  | inr ne ↦ absurd (leaf (two_of c part node x.a.port z.a.port ne (x.b, leads x l ax, k.here (turned x) (lists_turned cables x l)) (z.b, leads z m az, k.here (turned z) (lists_turned cables z m))))
]
  where
    leads : (y : Cable) → Lists cables y → y.a.node ≡ node → far c (record { node = node; port = y.a.port }) ≡ Some y.b
    leads y n at = subst (λ (v : ℕ). far c (record { node = v; port = y.a.port }) ≡ Some y.b) at (k.joined y n)

-- a leaf has one cable at most
one_has : (c : Wiring) (part node : ℕ) (cables : List Cable) → Inside c part cables →
    (HasTwo c part node → ⊥) → OneHas (At node) cables
one_has c part node cables k leaf = record {
  dec = at_dec node;
  alike = at_alike node;
  one = λ x z l m p q. elim p [
    | inl xa ↦ elim q [
      | inl za ↦ inl (one_at c part node cables k leaf x z l m xa za)
      | inr zb ↦ inr (ap turned (one_at c part node cables k leaf x (turned z) l (lists_turned cables z m) xa zb))
    ]
    | inr xb ↦ elim q [
      | inl za ↦ inr (one_at c part node cables k leaf (turned x) z (lists_turned cables x l) m xb za)
      | inr zb ↦ inl (ap turned (one_at c part node cables k leaf (turned x) (turned z) (lists_turned cables x l) (lists_turned cables z m) xb zb))
    ]
  ];
}

pub record Bare (c : Wiring) (set core : ℕ) : Type 0 where
  pub cabling : IsCabling c
  pub leaves : HasLeaves c
  pub is : IsCore c set core
  pub empty : IsEmpty core

inside_rest : (c : Wiring) (part node less : ℕ) (cables : List Cable) → Inside c part cables →
    Less part node less → (a : Away (At node) cables) → Inside c less a.rest
inside_rest c part node less cables k l a = record {
  once = a.once;
  joined = λ z m. k.joined z (a.from z m);
  here = λ z m. (l.others z.a.node (λ e. a.out z m (inl e))).1 (k.here z (a.from z m));
}

-- a part with a cable in it has two nodes at least
two_nodes : (c : Wiring) (part n : ℕ) (x : Cable) (cables : List Cable) → n ≡ 63 → part < 2 ^ 63 →
    IsCabling c → Inside c part (x ∷ cables) → 2 ≤ size_below part n
two_nodes c part n x cables e small is k =
    let first : Lists (x ∷ cables) x = inl (inl refl) in
    let found = less_by part x.a.node small (k.here x first) in
    let ne : x.b.node ≢ x.a.node = λ same. is.two_nodes x.a x.b (k.joined x first) (sym same) in
    let other : Holds found.0 x.b.node = (found.1.others x.b.node ne).1 (k.here (turned x) (lists_turned (x ∷ cables) x first)) in
    omega (arith, size_less part x.a.node found.0 n e small found.1 (k.here x first), size_some found.0 x.b.node n e found.1.small other)

-- cables inside a part, where no loop is, are fewer than its nodes
abbrev pub AreFewer : List Cable → ℕ → Type 0
AreFewer cables size = (length cables ≡ 0) ⊎ (length cables + 1 ≤ size)

pub fewer_cables : (fuel : ℕ) (c : Wiring) (set core part n : ℕ) (cables : List Cable) →
    size_below part n ≤ fuel → n ≡ 63 → part < 2 ^ 63 → Bare c set core → IsWithin part set →
    Inside c part cables → AreFewer cables (size_below part n)
fewer_cables fuel c set core part n [] h e small b within k = inl refl
fewer_cables zero c set core part n (x ∷ xs) h e small b within k = absurd (omega (arith, h, two_nodes c part n x xs e small b.cabling k))
fewer_cables (suc fuel) c set core part n (x ∷ xs) h e small b within k =
    let leaf = b.leaves set core part x.a.node b.is b.empty small within (k.here x (inl (inl refl))) in
    let found = less_by part leaf.0 small leaf.1 in
    let a : Away (At leaf.0) (x ∷ xs) = away (At leaf.0) (x ∷ xs) (one_has c part leaf.0 (x ∷ xs) k leaf.2) k.once in
    let size : size_below part n ≡ suc (size_below found.0 n) = size_less part leaf.0 found.0 n e small found.1 leaf.1 in
    elim (fewer_cables fuel c set core found.0 n a.rest (omega (arith, h, size)) e found.1.small b (λ y hy. within y (less_within part leaf.0 found.0 found.1 y hy)) (inside_rest c part leaf.0 found.0 (x ∷ xs) k found.1 a)) [
      | inl none ↦ inr (omega (arith, a.few, none, two_nodes c part n x xs e small b.cabling k))
      | inr less ↦ inr (omega (arith, a.few, less, size))
    ]
