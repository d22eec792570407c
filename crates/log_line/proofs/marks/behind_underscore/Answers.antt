use Rattle.std.proofs.Common.{◌+◌}
use Rattle.std.proofs.lemmas.List.{take_rest}
use Rattle.log_line.proofs.Unmarked.{first_underscore, no_underscore}
use Rattle.log_line.proofs.marks.behind_underscore.Goals as goal

pub returns-in-Some-clause-some : goal.returns-in-Some-clause-some
returns-in-Some-clause-some c =
    rw (take_rest c.args.text.now (c.in-Some.at + 1))
    (first_underscore c.args.text.now c.in-Some.at c.in-Some.ensures.0.high c.in-Some.ensures.0.before c.in-Some.ensures.1)

pub returns-in-None-clause-none : goal.returns-in-None-clause-none
returns-in-None-clause-none c = no_underscore c.args.text.now c.in-None.ensures
