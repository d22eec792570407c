use Rattle.std.proofs.Common.{◌≡◌, ◌∙◌, ◌+◌, ◌++◌, ℕ, sym, ap, subst}
use Rattle.std.specs.List.{slice_range}
use Rattle.topology_stack.specs.Name.{IsName}
use Rattle.trace_event.specs.Stands.{Stands, bytes_of}
use Rattle.trace_event.proofs.Chain.{behind, reads}
use Rattle.trace_event.proofs.Ends.{name_ends}
use Rattle.trace_event.proofs.words.name_at.Goals as goal

pub returns-clause-only : goal.returns-clause-only
returns-clause-only c = λ p w next whole named ends.
    let bytes = bytes_of c.args.text.now p in
    let rest = c.in_ok-start.ensures.only (bytes ++ w) next whole in
    let end = c.name_end-next.ensures.value ∙ ap (λ (k : ℕ). c.in_ok-start.start + k) (name_ends bytes w rest named.name.chars ends) in
    subst (λ (k : ℕ). Stands c.args.text.now k w next) (sym end) (behind bytes w rest)

pub returns-in_err-name-clause-only : goal.returns-in_err-name-clause-only
returns-in_err-name-clause-only c = λ p w next whole named ends.
    let bytes = bytes_of c.args.text.now p in
    let rest = c.in_ok-start.ensures.only (bytes ++ w) next whole in
    let end = c.name_end-next.ensures.value ∙ ap (λ (k : ℕ). c.in_ok-start.start + k) (name_ends bytes w rest named.name.chars ends) in
    let read = subst (λ (k : ℕ). slice_range c.args.text.now c.in_ok-start.start k ≡ bytes) (sym end) (reads bytes w rest) in
    absurd (let stop = c.in_err-name.ensures.only (subst IsName (sym read) named.name) in cc)
