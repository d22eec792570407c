use Rattle.std.proofs.Common.{ℕ, List, subst}
use Rattle.std.specs.Prelude.{Ok}
use Rattle.script_told.specs.Step.{DoesSettle}
use Rattle.script_bus.proofs.Hearing.{one-text}
use Rattle.script_bus.proofs.bus.Bus.settle.Goals as goal

pub returns-clause-done : goal.returns-clause-done
returns-clause-done g c =
    let done = c.in_ok-bus.ensures.done in
    let bus = c.in_ok-bus.bus in
    subst (λ (text : List ℕ). DoesSettle c.args.self (Ok (bus, text)))
    (one-text c.reports_have_one_text.ensures bus done.0 _ done.1 c.in_ok-text.ensures) done.2
