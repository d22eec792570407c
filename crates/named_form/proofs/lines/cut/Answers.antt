use Rattle.std.proofs.Common.{arith, sym}
use Rattle.std.proofs.lemmas.Grind.{common_steps}
use Rattle.named_form.proofs.Cutting.{lines_cut}
use Rattle.named_form.proofs.lines.cut.Goals as goal

pub returns-in-Some-clause-cut : goal.returns-in-Some-clause-cut
returns-in-Some-clause-cut c =
    let cut = lines_cut c.args.text.now c.in-Some.end (sym c.in-Some.ensures.value) in
    grind (arith, common_steps, cut)
