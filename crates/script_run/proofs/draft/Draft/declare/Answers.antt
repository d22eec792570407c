use Rattle.std.proofs.lemmas.Result.{err_from_is_err_and}
use Rattle.script_run.specs.codings.Declaring.{node_said}
use Rattle.script_run.proofs.draft.Draft.declare.Goals as goal

pub returns-in_err-check-clause-stop : goal.returns-in_err-check-clause-stop
returns-in_err-check-clause-stop c =
    let p = err_from_is_err_and c.from_residual.result c.from_residual.ensures.1 in
    rw (p.1, p.2) (c.in_err-check.ensures.stop (node_said c.args.node))
