-- The lines of a script, from the first on.
use Rattle.std.proofs.Common.{◌≡◌, ℕ, ◌+◌, ◌<◌, ◌==◌, ◌≤◌, Bool, true, false, List, [], ◌∷◌, Some, None, length, take, drop, refl, ap, ◌∙◌, arith}
use Rattle.std.specs.Prelude.{position, cond}
use Rattle.std.specs.List.{slice_split, position_or_len, onto_first}
use Rattle.std.proofs.lemmas.Bool.Decides.{nat_tests}
use Rattle.script_text.specs.Summary.{is_feed}
use Rattle.script_told.specs.Script.{without_last_if_empty, script_lines}
use Rattle.line_words.proofs.Lemmas.{cut, uncut}

-- there is always a part, so a line stands before it
stands : (line text : List ℕ) →
    without_last_if_empty (line ∷ slice_split is_feed text) ≡ line ∷ script_lines text
stands line [] = refl
stands line (c ∷ cs) = go (is_feed c) (slice_split is_feed cs)
  where
    go : (feed : Bool) (parts : List (List ℕ)) →
        without_last_if_empty (line ∷ cond feed ([] ∷ parts) (onto_first c parts))
        ≡ line ∷ without_last_if_empty (cond feed ([] ∷ parts) (onto_first c parts))
    go true parts = refl
    go false [] = refl
    go false (first ∷ rest) = refl

-- the first line ends at the first line feed
pub script_lines_cut : (text : List ℕ) (end : ℕ) → position is_feed text ≡ Some end →
    script_lines text ≡ take end text ∷ script_lines (drop (end + 1) text)
script_lines_cut text end h =
    ap without_last_if_empty (cut is_feed text end h) ∙ stands (take end text) (drop (end + 1) text)

one-line : (text : List ℕ) → 0 < length text → without_last_if_empty (text ∷ []) ≡ text ∷ []
one-line text some = go (length text == 0) refl
  where
    go : (none : Bool) → (length text == 0) ≡ none → cond none [] (text ∷ []) ≡ text ∷ []
    go false e = refl
    go true e = absurd (grind (arith, nat_tests))

-- a text without a line feed is one line
pub script_lines_whole : (text : List ℕ) → position is_feed text ≡ None → 0 < length text →
    script_lines text ≡ text ∷ []
script_lines_whole text h some =
    let long : length text ≤ position_or_len is_feed text = grind (arith, nat_tests) in
    ap without_last_if_empty (uncut is_feed text long) ∙ one-line text some
