use Rattle.std.proofs.Common.{◌≡◌, ◌∙◌, ℕ, List, false, sym, subst}
use Rattle.log_line.specs.Marks.{has_mark, begins_loss}
use Rattle.log_line.proofs.Unmarked.{passed_over, neither}
use Rattle.log_line.proofs.line.line_of.Goals as goal

pub returns-then-not-may_be_shown : goal.returns-then-not-may_be_shown
returns-then-not-may_be_shown c =
    let none = neither (has_mark c.front-kept.result.now) (begins_loss c.front-kept.result.now) (sym c.may_be_shown.ensures ∙ c.if-not-may_be_shown.true) in
    sym (passed_over c.args.line.now (subst (λ (l : List ℕ). has_mark l ≡ false) c.front-kept.ensures none.0) (subst (λ (l : List ℕ). begins_loss l ≡ false) c.front-kept.ensures none.1))
