use Rattle.std.proofs.Common.{List, ℕ, sym, subst}
use Rattle.std.specs.Prelude.{Ok}
use Rattle.script_trace.specs.Trace.{IsTrace}
use Rattle.script_run.proofs.Told.{tells-trace}
use Rattle.script_run.proofs.readings.TracingReading.tell.Goals as goal

pub returns-clause-told : goal.returns-clause-told
returns-clause-told c = λ bytes r. subst (λ (lines : List ℕ). IsTrace bytes (Ok lines)) (sym c.into_text.ensures)
    (tells-trace _ bytes c.args.bus _ _ r)
