use Rattle.script_told.specs.Run.{IsResult}
use Rattle.script_run.proofs.Answering.{ok-all, err-all, stops-as}
use Rattle.script_run.proofs.reading.told_of.Goals as goal

pub returns-in-Ok-clause-told : goal.returns-in-Ok-clause-told
returns-in-Ok-clause-told g c =
    ok-all _ _ (λ told all. all c.args.bytes.now c.in-Ok.ensures.lines) c.tell_end.result c.tell_end.ensures.told

pub returns-in-Ok-clause-shown : goal.returns-in-Ok-clause-shown
returns-in-Ok-clause-shown g c =
    ok-all _ _ (λ told all. all c.args.bytes.now c.in-Ok.ensures.lines) c.tell_end.result c.tell_end.ensures.shown

pub returns-in-Ok-clause-refused : goal.returns-in-Ok-clause-refused
returns-in-Ok-clause-refused g c =
    err-all _ _ (λ stop all. all c.args.bytes.now c.in-Ok.ensures.lines) c.tell_end.result c.tell_end.ensures.refused

pub returns-in-Err-clause-refused : goal.returns-in-Err-clause-refused
returns-in-Err-clause-refused g c =
    stops-as (IsResult c.args.bytes.now) (g.R.Reading.refuses c.args.reading c.args.bytes.now)
    (g.met.R.Reading.of_script c.args.reading c.args.bytes.now) c.in-Err.stop c.in-Err.ensures.refused
