use Rattle.std.proofs.Common.{◌≡◌, ◌++◌}
use Rattle.script_made.specs.Made.{text_of, node_lines}
use Rattle.script_made.proofs.made.put_nodes.Given as goal

abbrev pub invariant-loop-node : goal.invariant-loop-node
invariant-loop-node l =
    l.out.items ≡ l.initial.out.items ++ text_of (node_lines l.seed l.node)
