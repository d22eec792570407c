use Rattle.std.proofs.Common.{refl, [], ◌++◌}
use Rattle.std.specs.Prelude.{codes}
use Rattle.trace_event.specs.Event.{end_words, numbered}
use Rattle.trace_event.proofs.Chain.{row}
use Rattle.trace_event.proofs.acts.hold_at.Goals as goal

pub returns-in_err-first-clause-only : goal.returns-in_err-first-clause-only
returns-in_err-first-clause-only c = λ name port turns next is fits turns_fit.
    absurd (c.in_err-first.ensures.only ((end_words c.args.text.now name port) ++ (numbered (codes " ") turns) ++ (codes "\n")) next (row (codes " hold") ((end_words c.args.text.now name port) ++ (numbered (codes " ") turns)) (codes "\n") is.line))

pub returns-in_err-next-clause-only : goal.returns-in_err-next-clause-only
returns-in_err-next-clause-only c = λ name port turns next is fits turns_fit.
    let s1 = c.in_ok-first.ensures.only ((end_words c.args.text.now name port) ++ (numbered (codes " ") turns) ++ (codes "\n")) next (row (codes " hold") ((end_words c.args.text.now name port) ++ (numbered (codes " ") turns)) (codes "\n") is.line) in
    let s2 = c.in_ok-end.ensures.only name port ((numbered (codes " ") turns) ++ (codes "\n")) next (row (end_words c.args.text.now name port) (numbered (codes " ") turns) (codes "\n") s1) is.names fits refl in
    let s3 = c.in_ok-turns.ensures.only turns (codes "\n") next s2 turns_fit refl in
    absurd (c.in_err-next.ensures.only [] next s3)
