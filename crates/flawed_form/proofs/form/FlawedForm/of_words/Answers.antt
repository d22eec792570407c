use Rattle.std.proofs.Common.{map, string_bytes, arith}
use Rattle.std.proofs.lemmas.List.{length-map}
use Rattle.flawed_form.proofs.Words.{too_few, too_many}
use Rattle.flawed_form.proofs.form.FlawedForm.of_words.Goals as goal

pub returns-in_default : goal.returns-in_default
returns-in_default c = λ form. (
  λ none. absurd cc,
  λ asks. absurd (too_few form (map string_bytes c.args.words.now) (omega (arith, length-map c.args.words.now string_bytes, c.in_default.len_below)) asks),
)

pub returns-in_default-2 : goal.returns-in_default-2
returns-in_default-2 c = λ form. (
  λ none. absurd cc,
  λ asks. absurd (too_many form (map string_bytes c.args.words.now) (omega (arith, length-map c.args.words.now string_bytes, c.in_default.len_at_least)) asks),
)
