-- No fewer cables than the pulls of a valid advice leave no loop.
use Rattle.std.proofs.Common.{◌≡◌, ℕ, ◌+◌, ◌^◌, ◌<◌, ◌≤◌, ◌⊎◌, inl, inr, List, [], ◌∷◌, ◌++◌, length, length-append, refl, ap, ◌∙◌, arith}
use Rattle.cabling.specs.declared.cable.Cable.{Cable}
use Rattle.cabling.specs.Wiring.{Wiring, IsCabling}
use Rattle.cabling.specs.NodeSet.{size_below}
use Rattle.cabling.specs.Looped.{HasLeaves}
use Rattle.cabling.proofs.Lemmas.{cases_end}
use Rattle.loop_advice.specs.Cables.{turned, IsSame, Lists, HasNoneTwice, HoldsEachOnce}
use Rattle.loop_advice.specs.Pulled.{ArePulled, NoFewerPullsDo}
use Rattle.loop_advice.proofs.Listed.{same_back, same_along}
use Rattle.loop_advice.proofs.Marking.{cable}
use Rattle.loop_advice.proofs.Components.{one_component, same_size, same_each}
use Rattle.loop_advice.proofs.Leaves.{Away, OneHas, away, Inside, Bare, fewer_cables}

same_or_not : (x y : Cable) → IsSame x y ⊎ (IsSame x y → ⊥)
same_or_not x y = elim (both x y) [
  | inl e ↦ inl (inl e)
  | inr ne ↦ elim (both x (turned y)) [
    | inl e ↦ inl (inr e)
    | inr nt ↦ inr (λ s. elim s [ inl e ↦ ne e | inr e ↦ nt e ])
  ]
]
  where
    both : (v w : Cable) → (v ≡ w) ⊎ (v ≡ w → ⊥)
    both v w = elim (cases_end v.a w.a) [
      | inr n ↦ inr (λ e. n (ap (λ (z : Cable). z.a) e))
      | inl a ↦ elim (cases_end v.b w.b) [
        | inr n ↦ inr (λ e. n (ap (λ (z : Cable). z.b) e))
        | inl b ↦ inl (ap (λ e. cable e v.b) a ∙ ap (λ e. cable w.a e) b)
      ]
    ]

is_one : (o : Cable) (xs : List Cable) → OneHas (λ z. IsSame z o) xs
is_one o xs = record {
  dec = λ z. same_or_not z o;
  alike = λ x z s p. same_along x z o (same_back z x s) p;
  one = λ x z l m p q. same_along z o x q (same_back x o p);
}

-- the cables but those of another list
record Left (others cables : List Cable) : Type 0 where
  rest : List Cable
  once : HasNoneTwice rest
  from : (z : Cable) → Lists rest z → Lists cables z
  out : (z : Cable) → Lists rest z → Lists others z → ⊥
  few : length cables ≤ length rest + length others

left_next : (o : Cable) (os cables : List Cable) → (l : Left os cables) →
    Away (λ z. IsSame z o) l.rest → Left (o ∷ os) cables
left_next o os cables l a = record {
  rest = a.rest;
  once = a.once;
  from = λ z m. l.from z (a.from z m);
  out = λ z m n. elim n [ inl s ↦ a.out z m s | inr k ↦ l.out z (a.from z m) k ];
  few = omega (arith, l.few, a.few);
}

left_by : (others cables : List Cable) → HasNoneTwice cables → Left others cables
left_by [] cables once = record { rest = cables; once = once; from = λ z m. m; out = λ z m n. n; few = omega arith }
left_by (o ∷ os) cables once =
    let l = left_by os cables once in
    left_next o os cables l (away (λ z. IsSame z o) l.rest (is_one o l.rest) l.once)

inside_left : (old new : Wiring) (set : ℕ) (others cables : List Cable) →
    HoldsEachOnce old set cables → ArePulled old new others → (l : Left others cables) →
    Inside new set l.rest
inside_left old new set others cables each p l = record {
  once = l.once;
  joined = λ z m. (p.left z.a z.b).1 (((each.all z).0 (l.from z m)).joined, l.out z m);
  here = λ z m. ((each.all z).0 (l.from z m)).here;
}

least : (old new : Wiring) (node : ℕ) (pulls kept others : List Cable) (set core n : ℕ) → n ≡ 63 →
    set < 2 ^ 63 → HoldsEachOnce old set (pulls ++ kept) → length kept + 1 ≡ size_below set n →
    ArePulled old new others → Bare new set core → length pulls ≤ length others
least old new node pulls kept others set core n e small each count p b =
    let l = left_by others (pulls ++ kept) each.once in
    elim (fewer_cables (size_below set n) new set core set n l.rest (omega arith) e small b (λ y h. h) (inside_left old new set others (pulls ++ kept) each p l)) [
      | inl none ↦ omega (arith, l.few, none, length-append pulls kept)
      | inr less ↦ omega (arith, l.few, less, count, length-append pulls kept)
    ]

pub no_fewer : (old new : Wiring) → IsCabling new → HasLeaves new → NoFewerPullsDo old new
no_fewer old new cabling leaves node pulls kept others set core small k p is is_core empty =
    let same = one_component old node k.component set k.of_node is in
    least old new node pulls kept others set core 63 refl small
    (same_each old k.component set (pulls ++ kept) same k.each)
    (k.count ∙ same_size k.component set 63 same) p
    (record { cabling = cabling; leaves = leaves; is = is_core; empty = empty })
