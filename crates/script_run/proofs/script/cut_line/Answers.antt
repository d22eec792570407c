use Rattle.std.proofs.Common.{arith, sym}
use Rattle.std.proofs.lemmas.Grind.{common_steps}
use Rattle.script_run.proofs.ScriptLines.{script_lines_cut, script_lines_whole}
use Rattle.script_run.proofs.script.cut_line.Goals as goal

pub returns-in-Some-clause-lines : goal.returns-in-Some-clause-lines
returns-in-Some-clause-lines c =
    let cut = script_lines_cut c.args.rest.now c.in-Some.end (sym c.in-Some.ensures.value) in
    grind (arith, common_steps, cut)

pub returns-in-None-clause-lines : goal.returns-in-None-clause-lines
returns-in-None-clause-lines c = script_lines_whole c.args.rest.now (sym c.in-None.ensures.value) c.requires
