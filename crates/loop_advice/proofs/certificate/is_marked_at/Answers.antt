use Rattle.std.proofs.Common.{◌≡◌, true, Option, Some, None, is_some, refl, sym, ◌∙◌}
use Rattle.cabling.specs.declared.cable.End.{End}
use Rattle.loop_advice.proofs.Listed.{not_true}
use Rattle.loop_advice.proofs.certificate.is_marked_at.Goals as goal

some_of : (o : Option End) → true ≡ is_some o → (x : End) × (o ≡ Some x)
some_of (Some x) h = (x, refl)
some_of None h = absurd cc

pub returns-then-not-has : goal.returns-then-not-has
returns-then-not-has c all =
    let other = some_of c.far.result c.if-is_some.ensures in
    not_true (c.if-not-has.ensures.1 (all _ other.0 (sym c.far.ensures ∙ other.1) refl))
