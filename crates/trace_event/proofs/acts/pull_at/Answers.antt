use Rattle.std.proofs.Common.{refl, [], ◌++◌}
use Rattle.std.specs.Prelude.{codes}
use Rattle.trace_event.specs.Event.{end_words}
use Rattle.trace_event.proofs.Chain.{row}
use Rattle.trace_event.proofs.acts.pull_at.Goals as goal

pub returns-in_err-first-clause-only : goal.returns-in_err-first-clause-only
returns-in_err-first-clause-only c = λ name port next is fits.
    absurd (c.in_err-first.ensures.only ((end_words c.args.text.now name port) ++ (codes "\n")) next (row (codes " pull") (end_words c.args.text.now name port) (codes "\n") is.line))

pub returns-in_err-next-clause-only : goal.returns-in_err-next-clause-only
returns-in_err-next-clause-only c = λ name port next is fits.
    let s1 = c.in_ok-first.ensures.only ((end_words c.args.text.now name port) ++ (codes "\n")) next (row (codes " pull") (end_words c.args.text.now name port) (codes "\n") is.line) in
    let s2 = c.in_ok-end.ensures.only name port (codes "\n") next s1 is.names fits refl in
    absurd (c.in_err-next.ensures.only [] next s2)
