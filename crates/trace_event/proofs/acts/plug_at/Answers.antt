use Rattle.std.proofs.Common.{refl, [], ◌++◌}
use Rattle.std.specs.Prelude.{codes}
use Rattle.trace_event.specs.Event.{end_words}
use Rattle.trace_event.proofs.Chain.{row}
use Rattle.trace_event.proofs.acts.plug_at.Goals as goal

pub returns-in_err-first-clause-only : goal.returns-in_err-first-clause-only
returns-in_err-first-clause-only c = λ a b m n next is m_fits n_fits.
    absurd (c.in_err-first.ensures.only ((end_words c.args.text.now a m) ++ (end_words c.args.text.now b n) ++ (codes "\n")) next (row (codes " plug") ((end_words c.args.text.now a m) ++ (end_words c.args.text.now b n)) (codes "\n") is.line))

pub returns-in_err-next-clause-only : goal.returns-in_err-next-clause-only
returns-in_err-next-clause-only c = λ a b m n next is m_fits n_fits.
    let s1 = c.in_ok-first.ensures.only ((end_words c.args.text.now a m) ++ (end_words c.args.text.now b n) ++ (codes "\n")) next (row (codes " plug") ((end_words c.args.text.now a m) ++ (end_words c.args.text.now b n)) (codes "\n") is.line) in
    let s2 = c.in_ok-a.ensures.only a m ((end_words c.args.text.now b n) ++ (codes "\n")) next (row (end_words c.args.text.now a m) (end_words c.args.text.now b n) (codes "\n") s1) is.names.0 m_fits refl in
    let s3 = c.in_ok-b.ensures.only b n (codes "\n") next s2 is.names.1 n_fits refl in
    absurd (c.in_err-next.ensures.only [] next s3)
