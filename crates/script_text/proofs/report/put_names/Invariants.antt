use Rattle.std.proofs.Common.{◌≡◌, ◌++◌}
use Rattle.script_text.specs.ReportText.{spaced_below}
use Rattle.script_text.proofs.report.put_names.Given as goal

abbrev pub invariant-loop-node : goal.invariant-loop-node
invariant-loop-node l = l.out.items ≡ l.initial.out.items ++ spaced_below l.names l.set l.node
