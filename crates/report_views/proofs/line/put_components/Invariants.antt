use Rattle.report_views.proofs.Components.{Complete}
use Rattle.report_views.proofs.line.put_components.Given as goal

abbrev pub invariant-loop-part : goal.invariant-loop-part
invariant-loop-part l = Complete l.names l.parts l.part-index l.initial.out l.out
