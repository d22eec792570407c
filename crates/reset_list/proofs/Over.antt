-- A loop that writes over each item of a list what a function makes of it.
use Rattle.std.proofs.Common.{◌≡◌, ◌∙◌, ℕ, ◌+◌, ◌<◌, List, ◌++◌, length, get_or, set, take, drop, ap}
use Rattle.std.specs.Prelude.{map}
use Rattle.std.proofs.lemmas.List.{get_or_default}
use Rattle.std.proofs.lemmas.List.Edits.{map_over_more}

pub written_more : {X : Type 0} (f : X → X) (xs ys : List X) (i : ℕ) (d y : X) → i < length xs → i < length ys →
    ys ≡ map f (take i xs) ++ drop i xs → y ≡ f (get_or ys i d) →
    set ys i y ≡ map f (take (i + 1) xs) ++ drop (i + 1) xs
written_more f xs ys i d y lt within so_far is =
    ap (λ (z : _). set ys i z) is
    ∙ map_over_more f xs ys i (get_or ys i d) lt so_far (get_or_default ys i d (get_or ys i d) within)
