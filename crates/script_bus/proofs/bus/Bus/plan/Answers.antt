use Rattle.std.proofs.Common.{◌++◌, ℕ, List, ap, sym, subst, ◌∙◌}
use Rattle.std.specs.Prelude.{Ok}
use Rattle.script_lines.specs.declared.command.Command.TheVariants.{Plan}
use Rattle.script_told.specs.Step.{Does}
use Rattle.script_bus.proofs.Hearing.{one-text}
use Rattle.script_bus.proofs.bus.Bus.plan.Goals as goal

pub returns-clause-done : goal.returns-clause-done
returns-clause-done g c =
    let done = c.in_ok-bus.ensures.done in
    let bus = c.in_ok-bus.bus in
    let line = c.in_ok-bus.line.items in
    let same = one-text c.reports_have_one_text.ensures bus done.0 _ done.1 c.in_ok-report.ensures in
    let text = c.in_ok-text.ensures ∙ ap (λ (r : List ℕ). line ++ r) (c.as_slice.ensures.value ∙ sym same) in
    subst (λ (t : List ℕ). Does c.args.self (Plan c.args.name.now) (Ok (bus, t))) (sym text) done.2
