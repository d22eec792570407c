-- Cutting a line at its first blank.
pub use Rattle.line_words.proofs.Lemmas.{words_cut, words_whole}
