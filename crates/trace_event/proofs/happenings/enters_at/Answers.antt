use Rattle.std.proofs.Common.{[], ◌++◌}
use Rattle.std.specs.Prelude.{codes}
use Rattle.trace_event.specs.Event.{name_word, state_words}
use Rattle.trace_event.proofs.Chain.{row}
use Rattle.trace_event.proofs.Spelled.{begins_state}
use Rattle.trace_event.proofs.happenings.enters_at.Goals as goal

pub returns-in_err-next-clause-only : goal.returns-in_err-next-clause-only
returns-in_err-next-clause-only c = λ node phase next is.
    let s1 = c.in_ok-node.ensures.only node (state_words phase ++ (codes "\n")) next (row (name_word c.args.text.now node) (state_words phase) (codes "\n") is.line) is.names (begins_state phase (codes "\n")) in
    let s2 = c.in_ok-state.ensures.only phase (codes "\n") next s1 in
    absurd (c.in_err-next.ensures.only [] next s2)
