use Rattle.std.proofs.Common.{rules}
use Rattle.script_bus.specs.codings.Standing.{IsQuestion}
use Rattle.script_bus.proofs.Hearing.{question-hears}
use Rattle.script_bus.proofs.bus.Bus.command.Goals as goal

pub returns-in_ok-text-in_default-clause-heard : goal.returns-in_ok-text-in_default-clause-heard
returns-in_ok-text-in_default-clause-heard g c =
    let asks : IsQuestion c.args.command.now = search rules in
    question-hears g.L.Listener.voice _ _ c.args.command.now _ asks
