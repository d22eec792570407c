use Rattle.std.proofs.Common.{◌∙◌, refl}
use Rattle.log_line.proofs.line.event.Goals as goal

pub returns-in_ok-list-in-Core : goal.returns-in_ok-list-in-Core
returns-in_ok-list-in-Core c =
    c.reset_of-in-Core.ensures
    ∙ rw (c.in-Core.is, c.local_of-local.ensures, c.number_field-in-Core.ensures, c.widened-card.ensures, c.number_field.ensures, c.number_field-generation-in-Core.ensures, c.in_ok-list-in-Core.ensures) refl
