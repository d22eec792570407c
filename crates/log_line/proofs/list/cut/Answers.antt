use Rattle.std.proofs.Common.{arith, sym}
use Rattle.std.proofs.lemmas.Grind.{common_steps}
use Rattle.log_line.proofs.Commas.{commas_of_cut, commas_of_whole}
use Rattle.log_line.proofs.list.cut.Goals as goal

pub returns-in-Some-clause-cut : goal.returns-in-Some-clause-cut
returns-in-Some-clause-cut c =
    let cut = commas_of_cut c.args.text.now c.in-Some.end (sym c.in-Some.ensures.value) in
    grind (arith, common_steps, cut)

pub returns-in-None-clause-whole : goal.returns-in-None-clause-whole
returns-in-None-clause-whole c = commas_of_whole c.args.text.now (sym c.in-None.ensures.value)
