-- A text without a mark is one part.
use Rattle.std.proofs.Common.{◌≡◌, ℕ, ◌≤◌, Bool, List, [], ◌∷◌, None, length, arith}
use Rattle.std.specs.Prelude.{position}
use Rattle.std.specs.List.{slice_split, position_or_len}
use Rattle.std.proofs.lemmas.Bool.Decides.{nat_tests}
use Rattle.line_words.proofs.Lemmas.{uncut}

pub whole : (p : ℕ → Bool) (text : List ℕ) → position p text ≡ None →
    slice_split p text ≡ text ∷ []
whole p text h =
    let long : length text ≤ position_or_len p text = grind (arith, nat_tests) in
    uncut p text long
