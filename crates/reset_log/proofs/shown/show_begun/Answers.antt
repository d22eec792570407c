use Rattle.std.proofs.Common.{◌≡◌, ◌∙◌, ◌++◌, ℕ, List, ap, sym, subst}
use Rattle.bus_json.specs.Lines.{AreJsonLines}
use Rattle.reset_log.specs.codings.InJson.{IfJson}
use Rattle.reset_log.proofs.InJson.{both_lines}
use Rattle.reset_log.proofs.shown.show_begun.Goals as goal

pub returns-clause-json : goal.returns-clause-json
returns-clause-json c =
    let first = c.in_ok-text.field-0.text.items in
    let last = c.in_ok-second.second.text.items in
    let both : c.extend_from_slice.new.self.items ≡ first ++ last =
    c.in_ok-extend_from_slice.ensures.items ∙ ap (λ (l : List ℕ). first ++ l) c.deref.ensures.value
    in
    subst (λ (l : List ℕ). IfJson c.args.form (AreJsonLines l)) (sym both)
    (both_lines c.args.form first last c.in_ok-text.ensures.json c.in_ok-second.ensures.json)
