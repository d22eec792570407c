-- What stands at a place of a list, and the list from there on.
use Rattle.std.proofs.Common.{◌≡◌, ℕ, zero, suc, ◌+◌, ◌<◌, Some, List, [], ◌∷◌, length, drop, refl, arith}
use Rattle.std.specs.Prelude.{slice_get}

-- the list from a place on begins with the item that stands there
pub at_drop : {X : Type 0} (xs : List X) (k : ℕ) (x : X) → slice_get xs k ≡ Some x →
    drop k xs ≡ x ∷ drop (k + 1) xs
at_drop [] k x e = absurd cc
at_drop (y ∷ xs) zero x e = let h : y ≡ x = cc in rw h refl
at_drop (y ∷ xs) (suc k) x e = let next : suc k + 1 ≡ suc (k + 1) = omega arith in rw next (at_drop xs k x e)

-- below the length an item stands at each place
pub item_at : {X : Type 0} (xs : List X) (k : ℕ) → k < length xs →
    (x : X) × (slice_get xs k ≡ Some x)
item_at [] k lt = absurd (omega (arith, lt))
item_at (x ∷ xs) zero lt = (x, refl)
item_at (x ∷ xs) (suc k) lt = item_at xs k (omega (arith, lt))
