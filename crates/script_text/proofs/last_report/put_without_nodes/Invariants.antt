use Rattle.std.proofs.Common.{◌≡◌, ◌++◌, length}
use Rattle.script_text.specs.Summary.{lines_of, without_nodes}
use Rattle.script_text.proofs.last_report.put_without_nodes.Given as goal

abbrev pub invariant-loop-rest : goal.invariant-loop-rest
invariant-loop-rest l =
    l.out.items ++ without_nodes (lines_of l.rest)
    ≡ l.initial.out.items ++ without_nodes (lines_of l.initial.rest)

abbrev pub decreases-loop-rest : goal.decreases-loop-rest
decreases-loop-rest l = length l.rest
