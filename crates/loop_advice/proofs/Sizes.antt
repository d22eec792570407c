-- How many nodes a set has.
use Rattle.std.proofs.Common.{◌≡◌, ◌≢◌, ℕ, zero, suc, ◌^◌, ◌<◌, ◌≤◌, inl, inr, List, [], ◌∷◌, length, refl, sym, subst, ◌∙◌, arith}
use Rattle.std.specs.Int.{bit_at}
use Rattle.std.proofs.lemmas.Bool.{cases_eq}
use Rattle.cabling.specs.NodeSet.{Holds, size_below}
use Rattle.cabling.proofs.Lemmas.{clear_bit, below, holds_or_not, Less, less_by, In}

same_bit : (set node less x : ℕ) → Less set node less → x ≢ node → bit_at set x ≡ bit_at less x
same_bit set node less x l ne = elim (holds_or_not set x) [
  | inl a ↦ a ∙ sym ((l.others x ne).1 a)
  | inr n ↦ clear_bit set x n ∙ sym (clear_bit less x (λ o. n ((l.others x ne).0 o)))
]

size_up_to : (set node less n : ℕ) → Less set node less → n ≤ node →
    size_below set n ≡ size_below less n
size_up_to set node less zero l h = refl
size_up_to set node less (suc n) l h = omega (arith, size_up_to set node less n l (omega (arith, h)), same_bit set node less n l (λ e. omega (arith, e, h)))

size_past : (set node less n : ℕ) → Less set node less → Holds set node → node < n →
    size_below set n ≡ suc (size_below less n)
size_past set node less zero l is h = absurd (omega (arith, h))
size_past set node less (suc n) l is h = elim (cases_eq n node) [
  | inl same ↦
      let gone : bit_at less node ≡ 0 = clear_bit less node l.gone in
      let here : bit_at set n ≡ 1 = subst (λ (x : ℕ). bit_at set x ≡ 1) (sym same) is in
      let there : bit_at less n ≡ 0 = subst (λ (x : ℕ). bit_at less x ≡ 0) (sym same) gone in
      omega (arith, size_up_to set node less n l (omega (arith, same)), here, there)
  | inr ne ↦ omega (arith, size_past set node less n l is (omega (arith, h, ne)), same_bit set node less n l ne)
]

-- one node less
pub size_less : (set node less n : ℕ) → n ≡ 63 → set < 2 ^ 63 → Less set node less →
    Holds set node → size_below set n ≡ suc (size_below less n)
size_less set node less n e small l is = size_past set node less n l is (omega (arith, e, below set node small is))

-- a set has at most as many nodes as a list that has each of them
pub size_within : (xs : List ℕ) (set n : ℕ) → n ≡ 63 → set < 2 ^ 63 →
    ((x : ℕ) → Holds set x → In x xs) → size_below set n ≤ length xs
size_within [] set n e small h = none n
  where
    none : (m : ℕ) → size_below set m ≤ 0
    none zero = omega arith
    none (suc m) = omega (arith, none m, clear_bit set m (λ b. h m b))
size_within (y ∷ ys) set n e small h = elim (holds_or_not set y) [
  | inr out ↦ omega (arith, size_within ys set n e small (λ x b. elim (h x b) [ inl same ↦ absurd (out (subst (λ (z : ℕ). Holds set z) same b)) | inr i ↦ i ]))
  | inl is ↦
      let found = less_by set y small is in
      let l : Less set y found.0 = found.1 in
      let rest : (x : ℕ) → Holds found.0 x → In x ys = λ x b. elim (cases_eq x y) [
        | inl same ↦ absurd (l.gone (subst (λ (z : ℕ). Holds found.0 z) same b))
        | inr ne ↦ elim (h x ((l.others x ne).0 b)) [ inl same ↦ absurd (ne same) | inr i ↦ i ]
      ] in
      omega (arith, size_less set y found.0 n e small l is, size_within ys found.0 n e l.small rest)
]

pub size_some : (set node n : ℕ) → n ≡ 63 → set < 2 ^ 63 → Holds set node → 1 ≤ size_below set n
size_some set node n e small is = let found = less_by set node small is in omega (arith, size_less set node found.0 n e small found.1 is)
