use Rattle.std.proofs.Common.{◌≡◌, ◌++◌}
use Rattle.report_views.specs.PlainGraph.{edges_below}
use Rattle.report_views.proofs.plain.put_plain_edges.Given as goal

abbrev pub invariant-loop-node : goal.invariant-loop-node
invariant-loop-node l = l.out.items ≡ l.initial.out.items ++ edges_below l.cabling l.set l.node
