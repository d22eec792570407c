-- What crates above use of the proofs of this one, by what it is about.

-- The number of digits is below 2 ^ 32.
pub use Rattle.line_words.proofs.Digits.{small_digits}
-- Cutting a text at the first element that parts it, and the words of a line at its first blank.
pub use Rattle.line_words.proofs.Parts.{cut, some_text, uncut, words_cut, words_whole}
