-- The first item of a list that passes a test, where it stands, and the list with another item in its place.
use Rattle.std.specs.Prelude.{ℕ, suc, Bool, if◌then◌else◌, Option, Some, None, List, [], ◌∷◌}

abbrev pub first_of : {X : Type 0} → (X → Bool) → List X → Option X
first_of p [] = None
first_of p (x ∷ xs) = if p x then Some x else first_of p xs

-- one place further on
abbrev pub next_place : Option ℕ → Option ℕ
next_place None = None
next_place (Some at) = Some (suc at)

abbrev pub place_of : {X : Type 0} → (X → Bool) → List X → Option ℕ
place_of p [] = None
place_of p (x ∷ xs) = if p x then Some 0 else next_place (place_of p xs)

-- what an item becomes; where none passes, what it begins as stands behind the others
abbrev pub updated : {X : Type 0} → (X → Bool) → (Option X → X) → List X → List X
updated p becomes [] = becomes None ∷ []
updated p becomes (x ∷ xs) =
    if p x then becomes (Some x) ∷ xs else x ∷ updated p becomes xs
