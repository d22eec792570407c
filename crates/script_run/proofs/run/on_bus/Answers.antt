use Rattle.std.proofs.Common.{◌≡◌, ◌++◌, false, refl, rules}
use Rattle.script_run.specs.Viewed.{prints_report}
use Rattle.script_run.proofs.Going.{prints-report}
use Rattle.script_run.proofs.Answering.{ok-all}
use Rattle.script_run.proofs.run.on_bus.Goals as goal

pub returns-in_ok-bus-in-Settle-clause-done : goal.returns-in_ok-bus-in-Settle-clause-done
returns-in_ok-bus-in-Settle-clause-done g c =
    let done = c.in_ok-bus-in-Settle.ensures.done in
    rw c.in-Settle.is (done.0, prints-report c.in_ok-bus-in-Settle.bus _ _ done.0 refl c.new.ensures.items done.1, done.2)

pub returns-in-Plan-clause-done : goal.returns-in-Plan-clause-done
returns-in-Plan-clause-done g c =
    rw c.in-Plan.is (ok-all _ _ (λ r done. (r.1.items ++ done.0, (done.0, done.1, refl), done.2)) c.do_plan.result c.do_plan.ensures.done)

pub returns-in_default-clause-done : goal.returns-in_default-clause-done
returns-in_default-clause-done g c =
    let prints : prints_report c.args.command.now ≡ false = search rules in
    ok-all _ _ (λ r does. (r.1.items, rw prints refl, does)) c.command.result c.command.ensures.done
