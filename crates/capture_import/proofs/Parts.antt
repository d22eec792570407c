-- Cutting a text at its first character between words, and at its first line feed.
pub use Rattle.line_words.proofs.Lemmas.{words_cut, words_whole}
use Rattle.std.proofs.Common.{◌≡◌, ℕ, ◌+◌, ◌≤◌, List, [], ◌∷◌, Some, None, length, take, drop, arith}
use Rattle.std.specs.Prelude.{position}
use Rattle.std.specs.List.{slice_split, position_or_len}
use Rattle.std.proofs.lemmas.Bool.Decides.{nat_tests}
use Rattle.line_words.proofs.Lemmas.{cut, uncut}
use Rattle.capture_import.specs.Text.{is_feed}

pub lines_cut : (text : List ℕ) (end : ℕ) → position is_feed text ≡ Some end →
    slice_split is_feed text ≡ take end text ∷ slice_split is_feed (drop (end + 1) text)
lines_cut text end h = cut is_feed text end h

pub lines_whole : (text : List ℕ) → position is_feed text ≡ None →
    slice_split is_feed text ≡ text ∷ []
lines_whole text h =
    let long : length text ≤ position_or_len is_feed text = grind (arith, nat_tests) in
    uncut is_feed text long
