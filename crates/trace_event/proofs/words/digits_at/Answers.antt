use Rattle.std.proofs.Common.{◌≡◌, ◌∙◌, ◌+◌, ℕ, sym, ap, subst}
use Rattle.std.specs.Prelude.{decimal}
use Rattle.std.specs.List.{slice_range}
use Rattle.trace_event.specs.Stands.{Stands}
use Rattle.trace_event.proofs.Chain.{behind, between, reads}
use Rattle.trace_event.proofs.Ends.{number_ends}
use Rattle.trace_event.proofs.words.digits_at.Goals as goal

pub returns-clause-found : goal.returns-clause-found
returns-clause-found c =
    between c.args.text.now c.args.at c.digits_end-next.result _ c.digits_end-next.ensures.from c.digits_end-next.ensures.inside (sym c.in_ok-value.ensures.found)

pub returns-clause-only : goal.returns-clause-only
returns-clause-only c = λ n w next whole fits ends.
    let end = c.digits_end-next.ensures.value ∙ ap (λ (k : ℕ). c.args.at + k) (number_ends n w whole fits ends) in
    subst (λ (k : ℕ). Stands c.args.text.now k w next) (sym end) (behind (decimal n) w whole)

pub returns-in_err-value-clause-only : goal.returns-in_err-value-clause-only
returns-in_err-value-clause-only c = λ n w next whole fits ends.
    let end = c.digits_end-next.ensures.value ∙ ap (λ (k : ℕ). c.args.at + k) (number_ends n w whole fits ends) in
    let digits = subst (λ (k : ℕ). slice_range c.args.text.now c.args.at k ≡ decimal n) (sym end) (reads (decimal n) w whole) in
    absurd (let stop = c.in_err-value.ensures.only n fits digits in cc)
