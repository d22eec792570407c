use Rattle.std.proofs.Common.{refl, [], ◌++◌}
use Rattle.std.specs.Prelude.{codes, decimal}
use Rattle.trace_event.specs.Event.{name_word, numbered, coin_digit}
use Rattle.trace_event.proofs.Chain.{row}
use Rattle.trace_event.proofs.happenings.coin_at.Goals as goal

pub returns-in_err-behind-clause-only : goal.returns-in_err-behind-clause-only
returns-in_err-behind-clause-only c = λ node coin wait next is coin_fits fits.
    let s1 = c.in_ok-node.ensures.only node ((codes " coin" ++ ((coin_digit coin) ++ (numbered (codes " wait ") wait))) ++ (codes "\n")) next (row (name_word c.args.text.now node) (codes " coin" ++ ((coin_digit coin) ++ (numbered (codes " wait ") wait))) (codes "\n") is.line) is.names refl in
    absurd (c.in_err-behind.ensures.only (((coin_digit coin) ++ (numbered (codes " wait ") wait)) ++ (codes "\n")) next (row (codes " coin") ((coin_digit coin) ++ (numbered (codes " wait ") wait)) (codes "\n") s1))

pub returns-in_err-next-clause-only : goal.returns-in_err-next-clause-only
returns-in_err-next-clause-only c = λ node coin wait next is coin_fits fits.
    let s1 = c.in_ok-node.ensures.only node ((codes " coin" ++ ((coin_digit coin) ++ (numbered (codes " wait ") wait))) ++ (codes "\n")) next (row (name_word c.args.text.now node) (codes " coin" ++ ((coin_digit coin) ++ (numbered (codes " wait ") wait))) (codes "\n") is.line) is.names refl in
    let s2 = c.in_ok-behind.ensures.only (((coin_digit coin) ++ (numbered (codes " wait ") wait)) ++ (codes "\n")) next (row (codes " coin") ((coin_digit coin) ++ (numbered (codes " wait ") wait)) (codes "\n") s1) in
    let s3 = c.coin_digit_at-coin.ensures.only coin (decimal wait ++ (codes "\n")) next (row (coin_digit coin) (numbered (codes " wait ") wait) (codes "\n") s2) coin_fits in
    let s4 = c.in_ok-wait.ensures.only wait (codes "\n") next s3 fits refl in
    absurd (c.in_err-next.ensures.only [] next s4)
