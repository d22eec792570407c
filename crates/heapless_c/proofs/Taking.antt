-- The first quadlets of a list that goes on.
use Rattle.std.proofs.lemmas.Bool.{leb-true, leb-false}
use Rattle.std.proofs.Common.{◌≡◌, ℕ, suc, min, Bool, true, false, leb, refl, ◌+◌, ◌<◌, ◌≤◌, List, [], ◌∷◌, ◌++◌, length, take, drop, set, sym, ap, ◌∙◌, append_assoc, arith, length-append, length-take}
use Rattle.std.proofs.lemmas.List.{length-take-le, take_all, take_at, set_split, take-append-le}

-- the room for one more
pub more : (qs list : List ℕ) (n q : ℕ) → length qs ≡ 253 → n < 253 → take n qs ≡ take 253 list →
    take (n + 1) (set qs n q) ≡ take 253 (list ++ q ∷ [])
more qs list n q whole lt kept =
    let few : n ≤ length qs = omega (arith, whole) in
    let count : length (take n qs) ≡ n = length-take-le n qs few in
    let short : length list ≤ 253 = omega (arith, count, ap length kept, length-take 253 list) in
    let all : take 253 list ≡ list = take_all 253 list short in
    let long : length (list ++ q ∷ []) ≤ 253 = omega (arith, count, ap length (kept ∙ all), length-append list (q ∷ [])) in
    let ends : take (n + 1) ((take n qs ++ q ∷ []) ++ drop (suc n) qs) ≡ take n qs ++ q ∷ [] = take_at (take n qs ++ q ∷ []) (drop (suc n) qs) (n + 1) (omega (arith, count, length-append (take n qs) (q ∷ []))) in
    let split : set qs n q ≡ (take n qs ++ q ∷ []) ++ drop (suc n) qs = set_split qs n q (omega (arith, whole)) ∙ sym (append_assoc (take n qs) (q ∷ []) (drop (suc n) qs)) in
    ap (take (n + 1)) split ∙ ends ∙ ap (λ (l : List ℕ). l ++ q ∷ []) (kept ∙ all) ∙ sym (take_all 253 (list ++ q ∷ []) long)

-- no room is left
pub full : (qs list : List ℕ) (n q : ℕ) → length qs ≡ 253 → 253 ≤ n → take n qs ≡ take 253 list →
    take n qs ≡ take 253 (list ++ q ∷ [])
full qs list n q whole le kept =
    let all : take n qs ≡ qs = take_all n qs (omega (arith, whole)) in
    let long : 253 ≤ length list = omega (arith, whole, ap length (sym all ∙ kept), length-take 253 list) in
    kept ∙ sym (take-append-le 253 list (q ∷ []) long)

-- more than all is all
pub at_most : (qs : List ℕ) (n : ℕ) → length qs ≡ 253 → take (min n 253) qs ≡ take n qs
at_most qs n whole = at (leb n 253) refl
  where
    at : (few : Bool) → leb n 253 ≡ few → take (min n 253) qs ≡ take n qs
    at true e = let same : min n 253 ≡ n = omega (arith, leb-true _ _ e) in ap (λ (k : ℕ). take k qs) same
    at false e = let most : min n 253 ≡ 253 = omega (arith, leb-false _ _ e) in ap (λ (k : ℕ). take k qs) most ∙ take_all 253 qs (omega (arith, whole)) ∙ sym (take_all n qs (omega (arith, whole, leb-false _ _ e)))
