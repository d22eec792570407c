use Rattle.std.proofs.Common.{◌≡◌, ◌++◌}
use Rattle.report_views.specs.PlainGraph.{nodes_below}
use Rattle.report_views.proofs.plain.put_plain_nodes.Given as goal

abbrev pub invariant-loop-node : goal.invariant-loop-node
invariant-loop-node l = l.out.items ≡ l.initial.out.items ++ nodes_below l.names l.outcome l.set l.node
