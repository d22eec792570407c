use Rattle.std.proofs.Common.{arith, sym}
use Rattle.std.proofs.lemmas.Grind.{common_steps}
use Rattle.script_text.proofs.TextLines.{first_line_cut, first_line_whole}
use Rattle.script_text.proofs.last_report.first_line_len.Goals as goal

pub returns-in-Some-clause-first : goal.returns-in-Some-clause-first
returns-in-Some-clause-first c =
    let cut = first_line_cut c.args.text.now c.in-Some.end (sym c.in-Some.ensures.value) in
    grind (arith, common_steps, cut)

pub returns-in-None-clause-first : goal.returns-in-None-clause-first
returns-in-None-clause-first c =
    let cut = first_line_whole c.args.text.now (sym c.in-None.ensures.value) c.requires in
    grind (arith, common_steps, cut)
