use Rattle.std.proofs.Common.{refl, [], ◌++◌}
use Rattle.std.specs.Prelude.{codes}
use Rattle.trace_event.specs.Event.{name_word}
use Rattle.trace_event.proofs.Chain.{both, row}
use Rattle.trace_event.proofs.happenings.misses_at.Goals as goal

pub returns-clause-found : goal.returns-clause-found
returns-clause-found c = record {
  line = both (both c.in_ok-node.ensures.stands c.in_ok-behind.ensures.found) c.in_ok-next.ensures.found;
  names = c.in_ok-node.ensures.named;
}

pub returns-in_err-behind-clause-only : goal.returns-in_err-behind-clause-only
returns-in_err-behind-clause-only c = λ node next is.
    let s1 = c.in_ok-node.ensures.only node (codes " misses a tick" ++ (codes "\n")) next (row (name_word c.args.text.now node) (codes " misses a tick") (codes "\n") is.line) is.names refl in
    absurd (c.in_err-behind.ensures.only (codes "\n") next s1)

pub returns-in_err-next-clause-only : goal.returns-in_err-next-clause-only
returns-in_err-next-clause-only c = λ node next is.
    let s1 = c.in_ok-node.ensures.only node (codes " misses a tick" ++ (codes "\n")) next (row (name_word c.args.text.now node) (codes " misses a tick") (codes "\n") is.line) is.names refl in
    let s2 = c.in_ok-behind.ensures.only (codes "\n") next s1 in
    absurd (c.in_err-next.ensures.only [] next s2)
