use Rattle.std.proofs.Common.{Bool, ap, sym, ◌∙◌, arith}
use Rattle.std.specs.Prelude.{if◌then◌else◌}
use Rattle.flawed_capture.specs.Other.{with_up}
use Rattle.flawed_capture.proofs.Bits.{parent_at_two, parent_at_eight}
use Rattle.flawed_capture.proofs.change.with_parent.Goals as goal

pub returns-then-has_five_ports : goal.returns-then-has_five_ports
returns-then-has_five_ports c =
    parent_at_eight c.args.quad (omega arith)
    ∙ ap (λ (b : Bool). with_up (if b then 8 else 2) c.args.quad) (sym (sym c.has_five_ports.ensures ∙ c.if-has_five_ports.true))

pub returns-else-has_five_ports : goal.returns-else-has_five_ports
returns-else-has_five_ports c =
    parent_at_two c.args.quad (omega arith)
    ∙ ap (λ (b : Bool). with_up (if b then 8 else 2) c.args.quad) (sym (sym c.has_five_ports.ensures ∙ c.if-has_five_ports.false))
