-- How far a search for the first line feed has come.
use Rattle.std.proofs.Common.{◌≡◌, ℕ, zero, suc, ◌+◌, ◌<◌, ◌≤◌, Bool, true, false, List, [], ◌∷◌, Option, Some, length, take, drop, refl, sym, ap, ◌∙◌, arith}
use Rattle.std.specs.Prelude.{position, not, cond}
use Rattle.std.specs.List.{position_or_len, position_from}
use Rattle.std.specs.Simd.Lanes.{mask_l}
use Rattle.std.proofs.lemmas.Grind.{common_steps}
use Rattle.std.proofs.lemmas.Iterator.Adapters.{position_from-zero}
use Rattle.script_text.specs.Summary.{is_feed}

-- the search has come to this place without a feed, and this is left
pub record IsPast (text : List ℕ) (at : ℕ) (rest : List ℕ) : Type 0 where
  pub answer : position is_feed text ≡ position_from is_feed at rest
  pub count : at + length rest ≡ length text

pub past-start : (text : List ℕ) → IsPast text 0 text
past-start text = record { answer = position_from-zero is_feed text; count = omega arith }

-- none of the first n passes
skip : (p : ℕ → Bool) (n at : ℕ) (xs : List ℕ) → n ≤ length xs → n ≤ position_or_len p (take n xs) →
    position_from p at xs ≡ position_from p (at + n) (drop n xs)
skip p zero at xs long none =
    let same : at ≡ at + 0 = omega arith in
    ap (λ (k : ℕ). position_from p k xs) same
skip p (suc n) at [] long none = absurd (omega (arith, long))
skip p (suc n) at (x ∷ xs) long none = go (p x) none (skip p n (at + 1) xs (omega (arith, long)))
  where
    go : (b : Bool) → suc n ≤ cond (not b) (1 + position_or_len p (take n xs)) 0 →
        (n ≤ position_or_len p (take n xs) →
        position_from p (at + 1) xs ≡ position_from p ((at + 1) + n) (drop n xs)) →
        cond b (Some at) (position_from p (at + 1) xs) ≡ position_from p (at + suc n) (drop n xs)
    go true none rest = absurd (omega (arith, none))
    go false none rest =
        let same : (at + 1) + n ≡ at + suc n = omega arith in
        rest (omega (arith, none)) ∙ ap (λ (k : ℕ). position_from p k (drop n xs)) same

-- one of the first n passes
found : (p : ℕ → Bool) (n at : ℕ) (xs : List ℕ) → n ≤ length xs → position_or_len p (take n xs) < n →
    position_from p at xs ≡ Some (at + position_or_len p (take n xs))
found p zero at xs long some = absurd (omega (arith, some))
found p (suc n) at [] long some = absurd (omega (arith, long))
found p (suc n) at (x ∷ xs) long some = go (p x) some (found p n (at + 1) xs (omega (arith, long)))
  where
    go : (b : Bool) → cond (not b) (1 + position_or_len p (take n xs)) 0 < suc n →
        (position_or_len p (take n xs) < n →
        position_from p (at + 1) xs ≡ Some ((at + 1) + position_or_len p (take n xs))) →
        cond b (Some at) (position_from p (at + 1) xs)
        ≡ Some (at + cond (not b) (1 + position_or_len p (take n xs)) 0)
    go true some rest =
        let same : at ≡ at + 0 = omega arith in
        ap (λ (k : ℕ). Some k) same
    go false some rest =
        let same : (at + 1) + position_or_len p (take n xs) ≡ at + (1 + position_or_len p (take n xs)) = omega arith in
        rest (omega (arith, some)) ∙ ap (λ (k : ℕ). Some k) same

pub past-16 : (text : List ℕ) (at : ℕ) (rest : List ℕ) (first : ℕ) → IsPast text at rest → 16 ≤ length rest →
    first ≡ position_or_len is_feed (take 16 rest) → 16 ≤ first → IsPast text (at + 16) (drop 16 rest)
past-16 text at rest first past long is none = record {
  answer = past.answer ∙ skip is_feed 16 at rest long (omega (arith, is, none));
  count = grind (arith, common_steps, past.count, long);
}

pub found-16 : (text : List ℕ) (at : ℕ) (rest : List ℕ) (first : ℕ) → IsPast text at rest → 16 ≤ length rest →
    first ≡ position_or_len is_feed (take 16 rest) → first < 16 → position is_feed text ≡ Some (at + first)
found-16 text at rest first past long is some =
    past.answer ∙ found is_feed 16 at rest long (omega (arith, is, some)) ∙ ap (λ (k : ℕ). Some (at + k)) (sym is)
