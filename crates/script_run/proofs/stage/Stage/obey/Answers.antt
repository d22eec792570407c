use Rattle.std.proofs.Common.{sym, ◌∙◌}
use Rattle.script_run.proofs.Answering.{err-all}
use Rattle.script_run.proofs.Happening.{happened, happens-stop}
use Rattle.script_run.proofs.stage.Stage.obey.Goals as goal

pub returns-then-happens-clause-done : goal.returns-then-happens-clause-done
returns-then-happens-clause-done g c =
    happened _ _ c.args.self.now c.args.command _ _ _ _ c.happen.result (sym c.happens.ensures ∙ c.if-happens.true)
    g.met.R.Writes.Writer.nothing c.happen.ensures.done c.happen.ensures.heard

pub returns-then-happens-clause-stop : goal.returns-then-happens-clause-stop
returns-then-happens-clause-stop g c =
    err-all _ _ (happens-stop c.args.self.now c.args.command (sym c.happens.ensures ∙ c.if-happens.true))
    c.happen.result c.happen.ensures.stop
