use Rattle.std.proofs.Common.{◌≡◌, ◌∙◌, ◌++◌, ℕ, List, ap, sym, subst}
use Rattle.bus_json.specs.Lines.{AreJsonLines}
use Rattle.bus_json.proofs.Lemmas.{one_line, all_lines}
use Rattle.reset_log.proofs.values.totals_lines.Goals as goal

pub returns-clause-json : goal.returns-clause-json
returns-clause-json c =
    let first = c.in_ok-text.text.items in
    let last = c.in_ok-line.line.items in
    let both : c.extend_from_slice.new.self.items ≡ first ++ last =
    c.in_ok-extend_from_slice.ensures.items ∙ ap (λ (l : List ℕ). first ++ l) c.deref.ensures.value
    in
    subst AreJsonLines (sym both) (all_lines first last c.in_ok-text.ensures.json (one_line last c.in_ok-line.ensures.json))
