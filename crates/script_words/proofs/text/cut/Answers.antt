use Rattle.std.proofs.Common.{arith, sym}
use Rattle.std.proofs.lemmas.Grind.{common_steps}
use Rattle.line_words.proofs.Lemmas.{cut}
use Rattle.script_words.proofs.Parts.{whole}
use Rattle.script_words.specs.codings.Marks.{is_mark}
use Rattle.script_words.proofs.text.cut.Goals as goal

pub returns-in-Some-clause-cut : goal.returns-in-Some-clause-cut
returns-in-Some-clause-cut c =
    let first = cut (is_mark c.args.mark) c.args.text.now c.in-Some.end (sym c.in-Some.ensures.value) in
    grind (arith, common_steps, first)

pub returns-in-None-clause-whole : goal.returns-in-None-clause-whole
returns-in-None-clause-whole c =
    whole (is_mark c.args.mark) c.args.text.now (sym c.in-None.ensures.value)
