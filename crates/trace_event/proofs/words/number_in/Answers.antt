use Rattle.std.proofs.Common.{◌≡◌, ◌∙◌, sym, ap, subst, arith}
use Rattle.std.specs.Prelude.{decimal}
use Rattle.std.specs.Str.{IsAscii}
use Rattle.std.proofs.lemmas.Fmt.{IsAscii-decimal, parse-decimal}
use Rattle.std.proofs.lemmas.Str.{IsUtf8-from_ascii}
use Rattle.trace_event.proofs.Ends.{apart}
use Rattle.trace_event.proofs.words.number_in.Goals as goal

-- digits are text
pub returns-in_default-clause-only : goal.returns-in_default-clause-only
returns-in_default-clause-only c = λ n fits e.
    absurd (c.in_default.ensures.cases.0 (IsUtf8-from_ascii c.args.digits.now (subst IsAscii (sym e) (IsAscii-decimal n (omega arith)))))

-- they are those of a number
pub returns-in_default-parse-clause-only : goal.returns-in_default-parse-clause-only
returns-in_default-parse-clause-only c = λ n fits e.
    absurd (c.in_default-parse.not-Ok n (parse-decimal 32 n c.in-Ok.word.now _ (omega arith) (omega arith) (c.in-Ok.ensures.cases.0 ∙ e) c.parse.ensures.value.0))

-- which is written by the same digits
pub returns-then-ne-clause-only : goal.returns-then-ne-clause-only
returns-then-ne-clause-only c = λ n fits e.
    let is = parse-decimal 32 n c.in-Ok.word.now c.parse.result (omega arith) (omega arith) (c.in-Ok.ensures.cases.0 ∙ e) c.parse.ensures.value.0 in
    let same : c.in-Ok-parse.number ≡ n = cc (is, c.in-Ok-parse.is) in
    absurd (apart c.as_bytes.result.now c.args.digits.now c.ne.result c.ne.ensures c.if-ne.true
    (c.as_bytes.ensures.value ∙ (c.format.ensures.text ∙ (ap decimal same ∙ sym e))))
