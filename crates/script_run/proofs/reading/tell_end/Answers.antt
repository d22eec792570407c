use Rattle.script_told.specs.Run.{IsResult}
use Rattle.script_run.proofs.Going.{refused-end, is-read}
use Rattle.script_run.proofs.Answering.{stops-as, stops-at-end}
use Rattle.script_run.proofs.reading.tell_end.Goals as goal

pub returns-in-Err-clause-refused : goal.returns-in-Err-clause-refused
returns-in-Err-clause-refused g c = λ bytes gone.
    stops-as (IsResult bytes) (g.R.Reading.refuses c.args.reading bytes) (g.met.R.Reading.of_script c.args.reading bytes) _
    (refused-end bytes gone.entries _ c.args.taken.stage c.in-Err.stop c.at_line.result c.at_line.ensures c.in-Err.ensures.stop gone.went)

pub returns-in-Ok-tell-clause-told : goal.returns-in-Ok-tell-clause-told
returns-in-Ok-tell-clause-told g c = λ bytes gone.
    c.in-Ok-tell.ensures.told bytes (is-read _ _ bytes _ _ _ _ _ _ _ gone c.in-Ok.ensures.done)

pub returns-in-Ok-tell-clause-shown : goal.returns-in-Ok-tell-clause-shown
returns-in-Ok-tell-clause-shown g c = λ bytes gone.
    c.in-Ok-tell.ensures.shown bytes (is-read _ _ bytes _ _ _ _ _ _ _ gone c.in-Ok.ensures.done)

pub returns-in-Err-tell-clause-refused : goal.returns-in-Err-tell-clause-refused
returns-in-Err-tell-clause-refused g c = λ bytes gone.
    stops-at-end _ (g.R.Reading.refuses c.args.reading) bytes _ c.in-Err-tell.stop c.at_line-in-Err-tell.result c.at_line-in-Err-tell.ensures gone.counted
    c.in-Err-tell.ensures.stop (is-read _ _ bytes _ _ _ _ _ _ _ gone c.in-Ok.ensures.done)
