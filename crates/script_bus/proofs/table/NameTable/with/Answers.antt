use Rattle.std.proofs.Common.{◌≡◌, false, rules, ap, ◌∙◌}
use Rattle.script_text.specs.ReportText.{Names}
use Rattle.script_told.specs.Bus.{is_declared}
use Rattle.script_bus.proofs.Numbered.{one-more}
use Rattle.script_bus.proofs.table.NameTable.with.Goals as goal

pub invariant_of-result : goal.invariant_of-result
invariant_of-result c =
    let new : is_declared c.self.inside.by_number c.args.name ≡ false
    = ap (λ (l : Names). is_declared l c.args.name) c.self.view_is ∙ c.requires in (
      search rules,
      one-more c.self.inside.by_number c.push.new.self c.args.name c.self.invariant.1 new c.in_ok-push.ensures.ok,
    )
