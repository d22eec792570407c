use Rattle.script_run.proofs.Answering.{ok-all, err-all, if-fault}
use Rattle.script_run.proofs.Told.{tells-list, tells-no-list}
use Rattle.script_run.proofs.readings.ListingReading.tell.Goals as goal

pub returns-clause-told : goal.returns-clause-told
returns-clause-told c =
    ok-all _ _ (λ list is bytes r. tells-list _ _ bytes c.args.bus _ _ _ list.items is r)
    c.list_of.result c.list_of.ensures.done

pub returns-clause-stop : goal.returns-clause-stop
returns-clause-stop c =
    err-all _ _ (if-fault _ _ (λ kind is bytes r. tells-no-list _ _ bytes c.args.bus _ _ _ kind is r))
    c.list_of.result c.list_of.ensures.stop
