use Rattle.std.proofs.Common.{[], refl}
use Rattle.std.specs.Prelude.{Ok}
use Rattle.script_run.proofs.stage.Stage.happen.Goals as goal

pub returns-clause-done : goal.returns-clause-done
returns-clause-done g c =
    (Ok (c.in_ok-bus-2.bus, []), rw (c.in_ok-bus.ensures, c.replace.ensures.value) at c.in_ok-bus-2.ensures.done, refl)
