-- The low eight bits of bytes are these bytes.
use Rattle.std.proofs.Common.{◌≡◌, ℕ, zero, suc, ◌<◌, ◌%◌, List, [], ◌∷◌, ◌++◌, take, get_or, Fits, w8, ap, ◌∙◌, refl, arith}
use Rattle.std.proofs.Math.Nat.{mod-eq_of_lt}
use Rattle.std.proofs.lemmas.List.{map-append}
use Rattle.io_edges.specs.InMemory.{as_bytes}

same : (n : ℕ) (xs : List ℕ) → ((i : ℕ) → Fits w8 (get_or xs i 0)) →
    as_bytes (take n xs) ≡ take n xs
same zero xs h = refl
same (suc n) [] h = refl
same (suc n) (x ∷ xs) h =
    let small : x < 256 = omega (arith, (h 0).fits) in
    ap (λ (b : ℕ). b ∷ as_bytes (take n xs)) (mod-eq_of_lt small) ∙ ap (λ (ys : List ℕ). x ∷ ys) (same n xs (λ i. h (suc i)))

-- so what is taken into a place of bytes is taken of them
pub gives : (left after place : List ℕ) (n : ℕ) → ((i : ℕ) → Fits w8 (get_or place i 0)) →
    left ≡ take n place ++ after → as_bytes left ≡ take n place ++ as_bytes after
gives left after place n h is =
    ap as_bytes is ∙ map-append (λ b. b % 256) (take n place) after ∙ ap (λ (ys : List ℕ). ys ++ as_bytes after) (same n place h)
