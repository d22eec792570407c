-- Cutting a text at its first line feed.
use Rattle.std.proofs.Common.{◌≡◌, ℕ, ◌+◌, ◌≤◌, List, [], ◌∷◌, Some, None, length, take, drop, arith}
use Rattle.std.specs.Prelude.{position}
use Rattle.std.specs.List.{position_or_len}
use Rattle.std.proofs.lemmas.Bool.Decides.{nat_tests}
use Rattle.line_words.proofs.Lemmas.{cut, uncut}
use Rattle.named_form.specs.File.{is_feed, lines_of}

pub lines_cut : (text : List ℕ) (end : ℕ) → position is_feed text ≡ Some end →
    lines_of text ≡ take end text ∷ lines_of (drop (end + 1) text)
lines_cut text end h = cut is_feed text end h

pub lines_whole : (text : List ℕ) → position is_feed text ≡ None → lines_of text ≡ text ∷ []
lines_whole text h =
    let long : length text ≤ position_or_len is_feed text = grind (arith, nat_tests) in
    uncut is_feed text long
