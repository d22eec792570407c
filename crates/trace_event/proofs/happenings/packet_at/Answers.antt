use Rattle.std.proofs.Common.{◌++◌}
use Rattle.std.specs.Prelude.{codes}
use Rattle.topology_stack.specs.Hex.{hex}
use Rattle.trace_event.proofs.Chain.{row}
use Rattle.trace_event.proofs.happenings.packet_at.Goals as goal

pub returns-in_err-behind-clause-only : goal.returns-in_err-behind-clause-only
returns-in_err-behind-clause-only c = λ quad w next whole.
    absurd (c.in_err-behind.ensures.only (hex 8 quad ++ w) next (row (codes " packet ") (hex 8 quad) w whole))
