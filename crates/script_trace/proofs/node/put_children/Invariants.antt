use Rattle.std.proofs.Common.{◌≡◌, ◌++◌, drop}
use Rattle.script_trace.specs.Event.{child_lines}
use Rattle.script_trace.proofs.node.put_children.Given as goal

abbrev pub invariant-loop-at : goal.invariant-loop-at
invariant-loop-at l =
    l.out.items ++ child_lines l.front l.before l.at (drop l.at l.after)
    ≡ l.initial.out.items ++ child_lines l.front l.before 0 l.after
