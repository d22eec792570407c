use Rattle.report_views.proofs.Graphs.{Complete}
use Rattle.report_views.proofs.report.put_part_graphs.Given as goal

abbrev pub invariant-loop-part : goal.invariant-loop-part
invariant-loop-part l = Complete l.names l.cabling l.parts l.part-index l.initial.out.items l.out.items
