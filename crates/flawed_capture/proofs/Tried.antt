-- The places of a list are tried in order, from one on and then from the first.
use Rattle.std.proofs.Common.{◌≡◌, ◌≢◌, inl, inr, ℕ, ◌+◌, ◌*◌, ◌-◌, ◌%◌, ◌<◌, ◌≤◌, ◌∙◌, ap, arith}
use Rattle.std.proofs.lemmas.Bool.{cases_lt}
use Rattle.std.proofs.lemmas.Nat.{mod-mul-add}

-- each place of a list is among as many as there are
pub is_tried : (first count step at : ℕ) → first < count → count ≤ step → at < count →
    ((k : ℕ) → k < step → (first + k) % count ≢ at) → ⊥
is_tried first count step at inside all there not_there = elim (cases_lt at first) [
  | inl before ↦
      let sum : first + (at + count - first) ≡ 1 * count + at = omega (arith, inside, before) in
      not_there (at + count - first) (omega (arith, inside, before, all))
      (ap (λ (n : ℕ). n % count) sum ∙ mod-mul-add 1 count at there)
  | inr after ↦
      let sum : first + (at - first) ≡ 0 * count + at = omega (arith, after) in
      not_there (at - first) (omega (arith, there, all))
      (ap (λ (n : ℕ). n % count) sum ∙ mod-mul-add 0 count at there)
]
