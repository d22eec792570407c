use Rattle.std.proofs.Common.{◌∙◌, sym, arith}
use Rattle.std.proofs.lemmas.Grind.{common_steps}
use Rattle.script_lines.proofs.Shown.{cut_so, uncut_so}
use Rattle.script_lines.proofs.words.cut_shown.Goals as goal

pub returns-in-None-clause-whole : goal.returns-in-None-clause-whole
returns-in-None-clause-whole c = (uncut_so c.args.line.now (sym c.in-None.ensures.value)).words

pub returns-in-None-clause-all : goal.returns-in-None-clause-all
returns-in-None-clause-all c = (uncut_so c.args.line.now (sym c.in-None.ensures.value)).permitted

pub returns-in-Some-clause-cut : goal.returns-in-Some-clause-cut
returns-in-Some-clause-cut c =
    let words = (cut_so c.args.line.now c.in-Some.end (sym c.in-Some.ensures.value)
    (sym c.is_blank.ensures ∙ c.if-is_blank.true)).words in
    grind (arith, common_steps, words)

pub returns-in-Some-clause-permitted : goal.returns-in-Some-clause-permitted
returns-in-Some-clause-permitted c =
    let permitted = (cut_so c.args.line.now c.in-Some.end (sym c.in-Some.ensures.value)
    (sym c.is_blank.ensures ∙ c.if-is_blank.true)).permitted in
    grind (arith, common_steps, permitted)
