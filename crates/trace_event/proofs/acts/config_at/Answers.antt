use Rattle.std.proofs.Common.{refl, [], ◌++◌}
use Rattle.std.specs.Prelude.{codes}
use Rattle.trace_event.specs.Event.{name_word, choice}
use Rattle.trace_event.proofs.Chain.{row}
use Rattle.trace_event.proofs.Spelled.{begins_choice, no_digit_choice}
use Rattle.trace_event.proofs.acts.config_at.Goals as goal

pub returns-in_err-first-clause-only : goal.returns-in_err-first-clause-only
returns-in_err-first-clause-only c = λ name root gap next is root_fits gap_fits.
    absurd (c.in_err-first.ensures.only (((name_word c.args.text.now name) ++ (choice root ++ choice gap)) ++ (codes "\n")) next (row (codes " config") ((name_word c.args.text.now name) ++ (choice root ++ choice gap)) (codes "\n") is.line))

pub returns-in_err-next-clause-only : goal.returns-in_err-next-clause-only
returns-in_err-next-clause-only c = λ name root gap next is root_fits gap_fits.
    let s1 = c.in_ok-first.ensures.only (((name_word c.args.text.now name) ++ (choice root ++ choice gap)) ++ (codes "\n")) next (row (codes " config") ((name_word c.args.text.now name) ++ (choice root ++ choice gap)) (codes "\n") is.line) in
    let s2 = c.in_ok-name.ensures.only name ((choice root ++ choice gap) ++ (codes "\n")) next (row (name_word c.args.text.now name) (choice root ++ choice gap) (codes "\n") s1) is.names (begins_choice root (choice gap) (codes "\n")) in
    let s3 = c.in_ok-root_id.ensures.only root (choice gap ++ (codes "\n")) next (row (choice root) (choice gap) (codes "\n") s2) root_fits (no_digit_choice gap (codes "\n")) in
    let s4 = c.in_ok-gap.ensures.only gap (codes "\n") next s3 gap_fits refl in
    absurd (c.in_err-next.ensures.only [] next s4)
