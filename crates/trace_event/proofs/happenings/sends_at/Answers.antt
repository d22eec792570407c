use Rattle.std.proofs.Common.{refl, [], ◌++◌}
use Rattle.std.specs.Prelude.{codes}
use Rattle.trace_event.specs.Event.{port_words, signal_words}
use Rattle.trace_event.proofs.Chain.{row}
use Rattle.trace_event.proofs.happenings.sends_at.Goals as goal

pub returns-in_err-behind-clause-only : goal.returns-in_err-behind-clause-only
returns-in_err-behind-clause-only c = λ node port signal next is fits.
    let s1 = c.in_ok-port.ensures.only node port ((codes " sends" ++ signal_words signal) ++ (codes "\n")) next (row (port_words c.args.text.now node port) (codes " sends" ++ signal_words signal) (codes "\n") is.line) is.names fits refl in
    absurd (c.in_err-behind.ensures.only (signal_words signal ++ (codes "\n")) next (row (codes " sends") (signal_words signal) (codes "\n") s1))

pub returns-in_err-next-clause-only : goal.returns-in_err-next-clause-only
returns-in_err-next-clause-only c = λ node port signal next is fits.
    let s1 = c.in_ok-port.ensures.only node port ((codes " sends" ++ signal_words signal) ++ (codes "\n")) next (row (port_words c.args.text.now node port) (codes " sends" ++ signal_words signal) (codes "\n") is.line) is.names fits refl in
    let s2 = c.in_ok-behind.ensures.only (signal_words signal ++ (codes "\n")) next (row (codes " sends") (signal_words signal) (codes "\n") s1) in
    let s3 = c.in_ok-signal.ensures.only signal (codes "\n") next s2 in
    absurd (c.in_err-next.ensures.only [] next s3)
