use Rattle.std.proofs.Common.{arith}
use Rattle.script_lines.proofs.node.node_of.Goals as goal

pub time-requires-3-clause-small : goal.time-requires-3-clause-small
time-requires-3-clause-small c = omega (arith, c.well_formed)
