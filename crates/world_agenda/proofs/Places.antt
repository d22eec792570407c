-- The places of a list that a loop hasn't come to, and those that it has.
use Rattle.std.proofs.Common.{◌≡◌, ℕ, zero, suc, ◌+◌, ◌<◌, List, [], ◌∷◌, All, length, take, drop, get_or, slice_set, refl, sym, ◌∙◌, ap, arith, add-one, subst}
use Rattle.std.proofs.lemmas.List.Elements.{All-head, All-tail, All-cons}

-- the next place has what it had at first
pub same-here :
    {X : Type 0} → (k : ℕ) (xs first : List X) (x : X) → length xs ≡ length first → drop k xs ≡ drop k first → x ≡ get_or xs k x →
    x ≡ get_or first k x
same-here {X = X} k xs first x long same at = at ∙ go k xs first long same
  where
    go : (k : ℕ) (xs first : List X) → length xs ≡ length first → drop k xs ≡ drop k first → get_or xs k x ≡ get_or first k x
    go k [] [] e same = refl
    go k [] (y ∷ first) e same = absurd (omega (arith, e))
    go k (z ∷ xs) [] e same = absurd (omega (arith, e))
    go zero (z ∷ xs) (y ∷ first) e same = ap (λ l. get_or l 0 x) same
    go (suc k) (z ∷ xs) (y ∷ first) e same = go k xs first (omega (arith, e)) same

-- and so have the places behind it
pub same-past :
    {X : Type 0} → (k : ℕ) (xs first : List X) (y : X) → length xs ≡ length first → drop k xs ≡ drop k first →
    drop (k + 1) (slice_set xs k y) ≡ drop (k + 1) first
same-past {X = X} k xs first y e same = ap (λ n. drop n (slice_set xs k y)) (add-one k) ∙ go k xs first e same ∙ sym (ap (λ n. drop n first) (add-one k))
  where
    go : (k : ℕ) (xs first : List X) → length xs ≡ length first → drop k xs ≡ drop k first → drop (suc k) (slice_set xs k y) ≡ drop (suc k) first
    go k [] [] e same = refl
    go k [] (z ∷ first) e same = absurd (omega (arith, e))
    go k (x ∷ xs) [] e same = absurd (omega (arith, e))
    go zero (x ∷ xs) (z ∷ first) e same = ap (drop 1) same
    go (suc k) (x ∷ xs) (z ∷ first) e same = go k xs first (omega (arith, e)) same

-- one more entry is as it should be
pub all-more :
    {X : Type 0} → (P : X → Type 0) (k : ℕ) (xs : List X) (y : X) → P y → All P (take k xs) → All P (take (k + 1) (slice_set xs k y))
all-more {X = X} P k xs y p h = subst (λ n. All P (take n (slice_set xs k y))) (sym (add-one k)) (go k xs h)
  where
    go : (k : ℕ) (xs : List X) → All P (take k xs) → All P (take (suc k) (slice_set xs k y))
    go zero [] h = h
    go (suc k) [] h = h
    go zero (x ∷ xs) h = All-cons P y [] p h
    go (suc k) (x ∷ xs) h = All-cons P x (take (suc k) (slice_set xs k y)) (All-head P x (take k xs) h) (go k xs (All-tail P x (take k xs) h))

-- the entry at a place
pub all-at : {X : Type 0} → (P : X → Type 0) (k : ℕ) (xs : List X) (x : X) → k < length xs →
    x ≡ get_or xs k x → All P xs → P x
all-at P k [] x inside at h = absurd (omega (arith, inside))
all-at P zero (y ∷ xs) x inside at h = subst P (sym at) (All-head P y xs h)
all-at P (suc k) (y ∷ xs) x inside at h = all-at P k xs x (omega (arith, inside)) at (All-tail P y xs h)
