-- Cutting a text at its first comma.
use Rattle.std.proofs.Common.{◌≡◌, ℕ, ◌+◌, ◌≤◌, List, [], Some, None, length, take, drop, ap, arith}
use Rattle.std.specs.Prelude.{position, map}
use Rattle.std.specs.List.{position_or_len}
use Rattle.std.proofs.lemmas.Bool.Decides.{nat_tests}
use Rattle.log_line.specs.Number.{number_of}
use Rattle.log_line.specs.Lists.{is_comma, before, bare, numbers_of, between_commas}
use Rattle.line_words.proofs.Lemmas.{cut, uncut}

pub commas_of_cut : (text : List ℕ) (end : ℕ) → position is_comma text ≡ Some end
    → between_commas text ≡ before (number_of (bare (take end text))) (between_commas (drop (end + 1) text))
unfolding between_commas
commas_of_cut text end h = ap (λ (ws : List (List ℕ)). numbers_of (map bare ws)) (cut is_comma text end h)

pub commas_of_whole : (text : List ℕ) → position is_comma text ≡ None
    → between_commas text ≡ before (number_of (bare text)) (Some [])
unfolding between_commas
commas_of_whole text h =
    let long : length text ≤ position_or_len is_comma text = grind (arith, nat_tests) in
    ap (λ (ws : List (List ℕ)). numbers_of (map bare ws)) (uncut is_comma text long)
