-- Counts that stay at their last value.
use Rattle.std.proofs.Common.{◌≡◌, ℕ, ◌+◌, ◌-◌, ◌^◌, ◌≤◌, Bool, true, false, cond, List, [], ◌∷◌, refl, ◌∙◌, ap, arith}
use Rattle.std.specs.Prelude.{count_by, fold}
use Rattle.std.proofs.lemmas.List.Recursion.{is_count_by}
use Rattle.io_edges.specs.Faults.{next_count}
use Rattle.reset_list.specs.declared.counts.Counts.{Counts}
use Rattle.reset_list.specs.Counts.{capped}

-- one more of what is counted, if it is
pub capped_more : (b : Bool) (n m k : ℕ) → n ≤ 2 ^ 64 - 1 → m ≡ cond b (next_count n) n →
    capped (m + k) ≡ capped (n + cond b (1 + k) k)
capped_more true n m k few e = omega (arith, e)
capped_more false n m k few e = ap (λ (x : ℕ). capped (x + k)) e

pub still_capped : (b : Bool) (n m : ℕ) → n ≤ 2 ^ 64 - 1 → m ≡ cond b (next_count n) n → m ≤ 2 ^ 64 - 1
still_capped true n m few e = omega (arith, e)
still_capped false n m few e = omega (arith, few, e)

-- how many pass a test
abbrev pub how_many : {X : Type 0} → (X → Bool) → List X → ℕ
how_many p [] = 0
how_many p (x ∷ xs) = cond (p x) (1 + how_many p xs) (how_many p xs)

pub how_many_count : {X : Type 0} (p : X → Bool) (xs : List X) → 0 + how_many p xs ≡ count_by p xs
how_many_count p xs = omega (arith, is_count_by (how_many p) p refl (λ y ys. refl) xs)

-- One of the counts, of which each item is one more if it passes a test, comes to how many of them do.
pub counted_in : {X : Type 0} (step : Counts → X → Counts) (of : Counts → ℕ) (p : X → Bool) →
    ((c : Counts) (x : X) → of (step c x) ≡ cond (p x) (next_count (of c)) (of c)) →
    (c : Counts) (xs : List X) → of c ≤ 2 ^ 64 - 1 → of (fold step c xs) ≡ capped (of c + how_many p xs)
counted_in step of p each c [] few = omega (arith, few)
counted_in step of p each c (x ∷ xs) few =
    let e = each c x in
    counted_in step of p each (step c x) xs (still_capped (p x) (of c) _ few e)
    ∙ capped_more (p x) (of c) _ (how_many p xs) few e
