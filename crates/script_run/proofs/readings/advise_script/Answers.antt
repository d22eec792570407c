use Rattle.script_run.proofs.Answering.{ok-all}
use Rattle.script_run.proofs.readings.advise_script.Goals as goal

pub returns-clause-no_loop : goal.returns-clause-no_loop
returns-clause-no_loop c =
    ok-all _ _ (λ text is. c.advices_leave_no_loop.ensures.text c.args.bytes.now text.items is)
    c.read_script.result c.read_script.ensures.told
