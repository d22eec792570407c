use Rattle.std.proofs.Common.{◌≡◌, ◌++◌, drop}
use Rattle.script_text.specs.PlanText.{all_in}
use Rattle.script_text.proofs.plan.put_all_in.Given as goal

abbrev pub invariant-loop-node : goal.invariant-loop-node
invariant-loop-node l = l.out.items ++ all_in l.names (drop l.node-index l.nodes) ≡ l.initial.out.items ++ all_in l.names l.nodes
