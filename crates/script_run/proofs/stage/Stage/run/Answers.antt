use Rattle.std.proofs.Common.{refl}
use Rattle.std.specs.Prelude.{Ok}
use Rattle.script_run.proofs.stage.Stage.run.Goals as goal

pub returns-clause-done : goal.returns-clause-done
returns-clause-done g c =
    let done = c.in_ok-bus-2.ensures.done in
    (done.0, done.1, (Ok (c.in_ok-bus-2.bus, done.0), rw (c.in_ok-bus.ensures, c.replace.ensures.value) at done.2, refl))
