use Rattle.std.proofs.Common.{◌≡◌, ◌-◌, ◌++◌}
use Rattle.json.specs.Tree.{items_tokens}
use Rattle.report_views.specs.ReportJson.{names_from}
use Rattle.report_views.proofs.line.put_set.Given as goal

-- what is written so far, and then the nodes that are left, are all nodes
abbrev pub invariant-loop-node : goal.invariant-loop-node
invariant-loop-node l =
    l.out ++ items_tokens (names_from l.names l.set l.node (63 - l.node))
    ≡ l.initial.out ++ items_tokens (names_from l.names l.set 0 63)
