use Rattle.std.proofs.Common.{rules, append_assoc}
use Rattle.topology_stack.specs.Text.{last_line}
use Rattle.topology_stack.proofs.text.put_last_line.Goals as goal

pub returns : goal.returns
unfolding last_line
returns c = search (rules, append_assoc)
