use Rattle.std.proofs.Common.{refl, [], ◌++◌}
use Rattle.std.specs.Prelude.{codes}
use Rattle.trace_event.specs.Event.{name_word}
use Rattle.trace_event.proofs.Chain.{row}
use Rattle.trace_event.proofs.acts.reset_at.Goals as goal

pub returns-in_err-first-clause-only : goal.returns-in_err-first-clause-only
returns-in_err-first-clause-only c = λ name next is.
    absurd (c.in_err-first.ensures.only ((name_word c.args.text.now name) ++ (codes "\n")) next (row (codes " reset") (name_word c.args.text.now name) (codes "\n") is.line))

pub returns-in_err-next-clause-only : goal.returns-in_err-next-clause-only
returns-in_err-next-clause-only c = λ name next is.
    let s1 = c.in_ok-first.ensures.only ((name_word c.args.text.now name) ++ (codes "\n")) next (row (codes " reset") (name_word c.args.text.now name) (codes "\n") is.line) in
    let s2 = c.in_ok-name.ensures.only name (codes "\n") next s1 is.names refl in
    absurd (c.in_err-next.ensures.only [] next s2)
