use Rattle.std.proofs.Common.{rules, append_assoc}
use Rattle.script_trace.specs.waves.Value.{state_lines}
use Rattle.script_trace.specs.waves.Head.{own_values}
use Rattle.script_trace.proofs.waves_head.put_own_values.Goals as goal

pub returns : goal.returns
unfolding own_values state_lines
returns c = search (rules, append_assoc)
