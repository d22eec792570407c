use Rattle.std.proofs.Common.{◌≡◌, ◌∙◌, true, sym, ap, arith}
use Rattle.std.proofs.lemmas.Grind.{common_steps}
use Rattle.std.specs.Prelude.{Ok}
use Rattle.script_lines.specs.Words.{words_of}
use Rattle.script_lines.specs.Line.{is_permitted_line}
use Rattle.script_lines.specs.codings.Reading.{read_words, in_line}
use Rattle.script_lines.proofs.LineRead.{words_line}
use Rattle.script_lines.proofs.line.read_long.Goals as goal

pub returns-clause-value : goal.returns-clause-value
returns-clause-value c =
    let e = c.are_permitted.ensures in
    let f = c.if-not-are_permitted.false in
    let permitted : is_permitted_line c.args.line.now ≡ true = grind (arith, common_steps, e, f) in
    let same : c.as_slice.result.now ≡ words_of c.args.line.now =
    c.as_slice.ensures.value ∙ c.in_ok-words.ensures in
    let says : Ok c.in_ok-read_words.field-0 ≡ read_words c.args.times c.as_slice.result.now =
    c.in_ok-read_words.ensures.value in
    words_line c.args.times c.args.line.now c.requires.shown permitted
    ∙ ap in_line (ap (read_words c.args.times) (sym same) ∙ sym says)
