-- Cutting a line at its first blank, and a text at its first line feed.
use Rattle.std.proofs.Common.{◌≡◌, ℕ, ◌+◌, ◌<◌, ◌≤◌, List, [], ◌∷◌, ◌++◌, Some, None, true, false, Bool, suc, length, take, drop, refl, ap, arith}
use Rattle.std.specs.Prelude.{◌==◌, filter, position, not, cond}
use Rattle.std.specs.List.{slice_split, position_or_len, onto_first}
use Rattle.std.proofs.lemmas.Bool.Decides.{nat_tests}
use Rattle.std.proofs.lemmas.List.Splits.{slice_split_first}
use Rattle.std.proofs.lemmas.List.Elements.{filter-append}
use Rattle.line_words.specs.Words.{is_some_text, words_by}

-- the first part, and what is behind it
pub cut : (p : ℕ → Bool) (line : List ℕ) (end : ℕ) → position p line ≡ Some end
    → slice_split p line ≡ take end line ∷ slice_split p (drop (end + 1) line)
cut p line end h =
    let found : (position_or_len p line < length line) × (position_or_len p line ≡ end) =
    grind (arith, nat_tests) in
    let first : slice_split p line ≡ take (position_or_len p line) line
    ∷ slice_split p (drop (position_or_len p line + 1) line) =
    slice_split_first {X = ℕ} p line 0 found.0 in
    rw found.1 at first

-- the first part, and the words behind it
pub words_cut : (is_blank : ℕ → Bool) (line : List ℕ) (end : ℕ) → position is_blank line ≡ Some end →
    words_by is_blank line
    ≡ filter is_some_text (take end line ∷ []) ++ words_by is_blank (drop (end + 1) line)
unfolding words_by
words_cut is_blank line end h =
    let rest : List (List ℕ) = slice_split is_blank (drop (end + 1) line) in
    let parts : slice_split is_blank line ≡ take end line ∷ rest = cut is_blank line end h in
    rw parts (filter-append is_some_text (take end line ∷ []) rest)

-- where no element passes, the list is one part
pub uncut : (p : ℕ → Bool) (line : List ℕ) → length line ≤ position_or_len p line
    → slice_split p line ≡ line ∷ []
uncut p [] h = refl
uncut p (c ∷ cs) h = go (p c) h (uncut p cs)
  where
    go : (here : Bool) → suc (length cs) ≤ cond (not here) (1 + position_or_len p cs) 0
        → (length cs ≤ position_or_len p cs → slice_split p cs ≡ cs ∷ [])
        → cond here ([] ∷ slice_split p cs) (onto_first c (slice_split p cs)) ≡ (c ∷ cs) ∷ []
    go true h rest = absurd (omega arith)
    go false h rest = ap (onto_first c) (rest (omega arith))

-- no blank stands in it
pub words_whole : (is_blank : ℕ → Bool) (line : List ℕ) → position is_blank line ≡ None →
    words_by is_blank line ≡ filter is_some_text (line ∷ [])
unfolding words_by
words_whole is_blank line h =
    let long : length line ≤ position_or_len is_blank line = grind (arith, nat_tests) in
    ap (filter is_some_text) (uncut is_blank line long)

-- a part that isn't empty is a word
pub some_text : (c : ℕ) (part : List ℕ) (parts : List (List ℕ)) →
    filter is_some_text ((c ∷ part) ∷ parts) ≡ (c ∷ part) ∷ filter is_some_text parts
some_text c part parts =
    ap (λ (b : Bool). cond (not b) ((c ∷ part) ∷ filter is_some_text parts) (filter is_some_text parts))
    (go (suc (length part) == 0) refl)
  where
    go : (none : Bool) → (suc (length part) == 0) ≡ none → (suc (length part) == 0) ≡ false
    go false e = e
    go true e =
        let same : suc (length part) ≡ 0 = grind (arith, nat_tests) in
        absurd (omega (arith, same))
