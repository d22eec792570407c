-- Cutting a text behind its first line.
use Rattle.std.proofs.Common.{◌≡◌, ℕ, ◌+◌, ◌<◌, ◌≤◌, List, [], ◌∷◌, Some, None, true, false, Bool, suc, length, take, drop, refl, ap, arith}
use Rattle.std.specs.Prelude.{position, not, cond, ◌||◌}
use Rattle.std.specs.List.{position_or_len, onto_first, list_any}
use Rattle.std.proofs.lemmas.Bool.Decides.{nat_tests}
use Rattle.script_text.specs.Summary.{is_feed, lines_of, is_report_line, from_last_report}

behind_feed : (text : List ℕ) → position_or_len is_feed text < length text
    → lines_of text ≡ take (suc (position_or_len is_feed text)) text
    ∷ lines_of (drop (suc (position_or_len is_feed text)) text)
behind_feed [] h = absurd (omega arith)
behind_feed (c ∷ cs) h = go (is_feed c) h (behind_feed cs)
  where
    go : (feed : Bool) → cond (not feed) (1 + position_or_len is_feed cs) 0 < suc (length cs)
        → (position_or_len is_feed cs < length cs
        → lines_of cs ≡ take (suc (position_or_len is_feed cs)) cs
        ∷ lines_of (drop (suc (position_or_len is_feed cs)) cs))
        → cond feed ((c ∷ []) ∷ lines_of cs) (onto_first c (lines_of cs))
        ≡ take (suc (cond (not feed) (1 + position_or_len is_feed cs) 0)) (c ∷ cs)
        ∷ lines_of (drop (suc (cond (not feed) (1 + position_or_len is_feed cs) 0)) (c ∷ cs))
    go true h rest = refl
    go false h rest =
        let one : 1 + position_or_len is_feed cs ≡ suc (position_or_len is_feed cs) = omega arith in
        rw one (ap (onto_first c) (rest (omega arith)))

whole : (text : List ℕ) → length text ≤ position_or_len is_feed text → 0 < length text
    → lines_of text ≡ text ∷ []
whole [] h some = absurd (omega arith)
whole (c ∷ []) h some = go (is_feed c) h
  where
    go : (feed : Bool) → 1 ≤ cond (not feed) (1 + 0) 0
        → cond feed ((c ∷ []) ∷ []) (onto_first c []) ≡ (c ∷ []) ∷ []
    go true h = refl
    go false h = refl
whole (c ∷ d ∷ ds) h some = go (is_feed c) h (whole (d ∷ ds))
  where
    go : (feed : Bool) → suc (length (d ∷ ds)) ≤ cond (not feed) (1 + position_or_len is_feed (d ∷ ds)) 0
        → (length (d ∷ ds) ≤ position_or_len is_feed (d ∷ ds) → 0 < length (d ∷ ds)
        → lines_of (d ∷ ds) ≡ (d ∷ ds) ∷ [])
        → cond feed ((c ∷ []) ∷ lines_of (d ∷ ds)) (onto_first c (lines_of (d ∷ ds)))
        ≡ (c ∷ d ∷ ds) ∷ []
    go true h rest = absurd (omega arith)
    go false h rest = ap (onto_first c) (rest (omega arith) (omega arith))

pub first_line_cut : (text : List ℕ) (end : ℕ) → position is_feed text ≡ Some end
    → lines_of text ≡ take (end + 1) text ∷ lines_of (drop (end + 1) text)
first_line_cut text end h =
    let found : (position_or_len is_feed text < length text)
    × (position_or_len is_feed text ≡ end) = grind (arith, nat_tests) in
    let next : end + 1 ≡ suc (position_or_len is_feed text) = omega (arith, found.1) in
    rw next (behind_feed text found.0)

pub first_line_whole : (text : List ℕ) → position is_feed text ≡ None → 0 < length text
    → lines_of text ≡ text ∷ []
first_line_whole text h some =
    let long : length text ≤ position_or_len is_feed text = grind (arith, nat_tests) in
    whole text long some

-- where no line begins a report nothing is left
pub none_begins : (lines : List (List ℕ))
    → cond (list_any is_report_line lines) (from_last_report lines) [] ≡ from_last_report lines
none_begins [] = refl
none_begins (line ∷ lines) =
    go (is_report_line line) (list_any is_report_line lines) (none_begins lines)
  where
    go : (begins any : Bool)
        → cond any (from_last_report lines) [] ≡ from_last_report lines
        → cond (begins || any) (cond (any || not begins) (from_last_report lines) (line ∷ lines)) []
        ≡ cond (any || not begins) (from_last_report lines) (line ∷ lines)
    go true any rest = refl
    go false true rest = refl
    go false false rest = rest
