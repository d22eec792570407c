use Rattle.std.proofs.Common.{arith}
use Rattle.trace_event.proofs.Spelled.{behind_coin}
use Rattle.trace_event.proofs.happenings.coin_digit_at.Goals as goal

pub returns-in-Some-clause-only : goal.returns-in-Some-clause-only
returns-in-Some-clause-only c = λ o w next whole short.
    behind_coin o w c.in-Some.number.value (omega (arith, c.number_at.type_inv)) c.in-Some.ensures.found c.in-Some.ensures.only whole short
