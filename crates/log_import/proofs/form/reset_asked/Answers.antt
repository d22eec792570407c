use Rattle.std.proofs.Common.{map, string_bytes, arith}
use Rattle.std.proofs.lemmas.List.{length-map}
use Rattle.log_import.proofs.Words.{two_words}
use Rattle.log_import.proofs.form.reset_asked.Goals as goal

pub returns-in_default : goal.returns-in_default
returns-in_default c = λ k. (
  λ none. absurd cc,
  λ asks. absurd (omega (arith, two_words k (map string_bytes c.args.words.now) asks, length-map c.args.words.now string_bytes, c.in_default.len_below)),
)

pub returns-in_default-2 : goal.returns-in_default-2
returns-in_default-2 c = λ k. (
  λ none. absurd cc,
  λ asks. absurd (omega (arith, two_words k (map string_bytes c.args.words.now) asks, length-map c.args.words.now string_bytes, c.in_default.len_at_least)),
)
