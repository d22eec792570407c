use Rattle.script_run.proofs.Answering.{ok-all, err-all, if-fault}
use Rattle.script_run.proofs.Told.{tells-advice, tells-no-advice}
use Rattle.script_run.proofs.readings.AdvisingReading.tell.Goals as goal

pub returns-clause-told : goal.returns-clause-told
returns-clause-told c =
    ok-all _ _ (λ text is bytes r. tells-advice _ _ bytes c.args.bus _ _ is.0 text.items is.1 r)
    c.advised.result c.advised.ensures.done

pub returns-clause-stop : goal.returns-clause-stop
returns-clause-stop c =
    err-all _ _ (if-fault _ _ (λ kind is bytes r. tells-no-advice _ _ bytes c.args.bus _ _ kind is r))
    c.advised.result c.advised.ensures.stop
