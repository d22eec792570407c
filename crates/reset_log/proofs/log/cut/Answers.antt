use Rattle.std.proofs.Common.{◌+◌, length, subst}
use Rattle.std.proofs.lemmas.List.{take_rest}
use Rattle.std.proofs.Math.Seq.{take-length}
use Rattle.reset_log.specs.codings.Going.{IsOneLine}
use Rattle.reset_log.proofs.Going.{cut_at, one_line}
use Rattle.reset_log.proofs.log.cut.Goals as goal

pub returns-in-Some-clause-cut : goal.returns-in-Some-clause-cut
returns-in-Some-clause-cut c =
    rw (take_rest c.args.text.now (c.in-Some.end + 1))
    (cut_at c.args.text.now c.in-Some.end c.in-Some.ensures.0.high c.in-Some.ensures.1)

pub returns-in-Some-clause-first : goal.returns-in-Some-clause-first
returns-in-Some-clause-first c = one_line c.args.text.now c.in-Some.end c.in-Some.ensures.0.before

pub returns-in-None-clause-whole : goal.returns-in-None-clause-whole
returns-in-None-clause-whole c =
    subst IsOneLine (take-length c.args.text.now) (one_line c.args.text.now (length c.args.text.now) c.in-None.ensures)
