-- Where no part of a component is looped, its nodes can be ranked: the root highest, and each node with
-- at most one cable to a higher one.
use Rattle.std.proofs.Common.{◌≡◌, ◌≢◌, ℕ, zero, suc, ◌^◌, ◌<◌, ◌⊎◌, inl, inr, Bool, true, false, cond, eqb, Some, refl, sym, subst, ◌∙◌, arith}
use Rattle.std.proofs.lemmas.Bool.{cases_eq, cases_lt, ne_eqb}
use Rattle.std.proofs.lemmas.Bool.Decides.{nat_tests}
use Rattle.cabling.specs.declared.cable.End.{End}
use Rattle.cabling.specs.Wiring.{Wiring, far, IsCabling}
use Rattle.cabling.specs.NodeSet.{Holds, IsWithin}
use Rattle.cabling.specs.Looped.{HasTwo}
use Rattle.cabling.proofs.Bits.{below}
use Rattle.cabling.proofs.Near.{end_at}
use Rattle.cabling.proofs.Cascade.{weak_or_all, two_or_not, two_of, holds_or_not, Less, less_by, less_within, NoLoop, cascade}

pub record Ranked (c : Wiring) (set root : ℕ) (rank : ℕ → ℕ) : Type 0 where
  pub top : (x : ℕ) → Holds set x → x ≢ root → rank x < rank root
  pub one_up : (x p q : ℕ) (a b : End) → Holds set x → Holds set a.node → Holds set b.node →
      far c (end_at x p) ≡ Some a → far c (end_at x q) ≡ Some b → rank x < rank a.node →
      rank x < rank b.node → p ≡ q
  pub differ : (x p : ℕ) (a : End) → Holds set x → Holds set a.node → far c (end_at x p) ≡ Some a →
      rank x ≢ rank a.node

-- a node is put below all others
abbrev under : ℕ → (ℕ → ℕ) → ℕ → ℕ
under node rank x = cond (eqb x node) 0 (suc (rank x))

under-same : (node x : ℕ) (rank : ℕ → ℕ) → x ≡ node → under node rank x ≡ 0
under-same node x rank e = go (eqb x node) (grind (arith, nat_tests))
  where
    go : (b : Bool) → b ≡ true → cond b 0 (suc (rank x)) ≡ 0
    go true e = refl
    go false e = absurd cc

under-other : (node x : ℕ) (rank : ℕ → ℕ) → x ≢ node → under node rank x ≡ suc (rank x)
under-other node x rank ne = go (eqb x node) (ne_eqb x node ne)
  where
    go : (b : Bool) → b ≡ false → cond b 0 (suc (rank x)) ≡ suc (rank x)
    go true e = absurd cc
    go false e = refl

-- one node alone
ranked_alone : (c : Wiring) (set root : ℕ) → IsCabling c → ((x : ℕ) → Holds set x → x ≡ root) →
    Ranked c set root (λ x. 0)
ranked_alone c set root is only = record {
  top = λ x h ne. absurd (ne (only x h));
  one_up = λ x p q a b h ha hb ea eb less other. absurd (omega (arith, less));
  differ = λ x p a h ha e same. is.two_nodes (end_at x p) a e (only x h ∙ sym (only a.node ha));
}

-- a weak node under the rest
ranked_more : (c : Wiring) (set root node less : ℕ) (rank : ℕ → ℕ) → IsCabling c → node ≢ root →
    (HasTwo c set node → ⊥) → Less set node less → Ranked c less root rank →
    Ranked c set root (under node rank)
ranked_more c set root node less rank is not_root weak l r =
    let in_less : (x : ℕ) → Holds set x → x ≢ node → Holds less x = λ x h ne. (l.others x ne).1 h in
    let high : (x y : ℕ) → under node rank x < under node rank y → y ≢ node = λ x y less same. omega (arith, less, under-same node y rank same) in
    record {
      top = λ x h ne. elim (cases_eq x node) [
        | inl same ↦ omega (arith, under-same node x rank same, under-other node root rank (λ e. not_root (sym e)))
        | inr ne_node ↦ omega (arith, under-other node x rank ne_node, under-other node root rank (λ e. not_root (sym e)), r.top x (in_less x h ne_node) ne)
      ];
      one_up = λ x p q a b h ha hb ea eb less other. elim (cases_eq x node) [
        | inl same ↦ elim (cases_eq p q) [
          | inl equal ↦ equal
          | inr apart ↦ absurd (weak (subst (λ (n : ℕ). HasTwo c set n) same (two_of c set x p q apart (a, ea, ha) (b, eb, hb))))
        ]
        | inr ne ↦
            let na : a.node ≢ node = high x a.node less in
            let nb : b.node ≢ node = high x b.node other in
            r.one_up x p q a b (in_less x h ne) (in_less a.node ha na) (in_less b.node hb nb) ea eb
            (omega (arith, less, under-other node x rank ne, under-other node a.node rank na))
            (omega (arith, other, under-other node x rank ne, under-other node b.node rank nb))
      ];
      differ = λ x p a h ha e same. elim (cases_eq x node) [
        | inl is_node ↦ elim (cases_eq a.node node) [
          | inl both ↦ is.two_nodes (end_at x p) a e (is_node ∙ sym both)
          | inr na ↦ omega (arith, same, under-same node x rank is_node, under-other node a.node rank na)
        ]
        | inr ne ↦ elim (cases_eq a.node node) [
          | inl a_node ↦ omega (arith, same, under-other node x rank ne, under-same node a.node rank a_node)
          | inr na ↦ r.differ x p a (in_less x h ne) (in_less a.node ha na) e (omega (arith, same, under-other node x rank ne, under-other node a.node rank na))
        ]
      ];
    }

-- one other node of the set, or none
other_below : (set root n : ℕ) →
    ((x : ℕ) × Holds set x × (x ≢ root)) ⊎ ((x : ℕ) → x < n → Holds set x → x ≡ root)
other_below set root zero = inr (λ x less h. absurd (omega (arith, less)))
other_below set root (suc n) = elim (other_below set root n) [
  | inl found ↦ inl found
  | inr all ↦ elim (holds_or_not set n) [
    | inr out ↦ inr (λ x less h. elim (cases_lt x n) [ inl b ↦ all x b h | inr a ↦ let same : x ≡ n = omega arith in absurd (out (subst (λ (y : ℕ). Holds set y) same h)) ])
    | inl is ↦ elim (cases_eq n root) [
      | inr ne ↦ inl (n, is, ne)
      | inl same ↦ inr (λ x less h. elim (cases_lt x n) [ inl b ↦ all x b h | inr a ↦ omega arith ])
    ]
  ]
]

pub ranked : (fuel : ℕ) (c : Wiring) (all set root : ℕ) → IsCabling c → NoLoop c all → set < fuel →
    set < 2 ^ 63 → IsWithin set all → Holds set root → (rank : ℕ → ℕ) × Ranked c set root rank
ranked zero c all set root is none less small within has = absurd (omega (arith, less))
ranked (suc fuel) c all set root is none less small within has = elim (weak_or_all c set root small) [
  | inl found ↦
      let rest = less_by set found.0 small found.1.here in
      let l : Less set found.0 rest.0 = rest.1 in
      let r = ranked fuel c all rest.0 root is none (omega (arith, l.value, less)) l.small (λ x h. within x (less_within set found.0 rest.0 l x h)) ((l.others root (λ e. found.1.other (sym e))).1 has) in
      (under found.0 r.0, ranked_more c set root found.0 rest.0 r.0 is found.1.other found.1.weak l r.1)
  | inr strong ↦ elim (other_below set root 63) [
    | inr only ↦ ((λ x. 0), ranked_alone c set root is (λ x h. only x (below set x small h) h))
    | inl other ↦ elim (two_or_not c set root) [
      | inr weak ↦ absurd (cascade (suc fuel) c all set root other.0 is none less small within has weak strong other.1 other.2)
      | inl two ↦ absurd (none set root within (λ x h. elim (cases_eq x root) [ inl same ↦ subst (λ (n : ℕ). HasTwo c set n) (sym same) two | inr ne ↦ strong x h ne ]) has)
    ]
  ]
]
