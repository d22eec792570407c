use Rattle.std.proofs.Common.{arith, sym}
use Rattle.std.proofs.lemmas.Grind.{common_steps}
use Rattle.log_line.specs.Words.{is_blank}
use Rattle.log_line.proofs.Parts.{words_cut}
use Rattle.log_line.proofs.words.cut.Goals as goal

pub returns-in-Some-clause-cut : goal.returns-in-Some-clause-cut
returns-in-Some-clause-cut c =
    let cut = words_cut is_blank c.args.line.now c.in-Some.end (sym c.in-Some.ensures.value) in
    grind (arith, common_steps, cut)
