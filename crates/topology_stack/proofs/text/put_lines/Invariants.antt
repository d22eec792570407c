use Rattle.std.proofs.Common.{◌≡◌, ◌++◌, drop}
use Rattle.topology_stack.specs.Stored.{all_ends}
use Rattle.topology_stack.specs.Text.{lines_from}
use Rattle.topology_stack.proofs.text.put_lines.Given as goal

abbrev pub invariant-loop-i : goal.invariant-loop-i
invariant-loop-i l = l.out.items ++ lines_from l.i (drop l.i l.nodes) (all_ends (drop l.i l.nodes) (drop l.i l.parents) (drop l.i l.children)) l.names ≡ l.initial.out.items ++ lines_from 0 l.nodes (all_ends l.nodes l.parents l.children) l.names
