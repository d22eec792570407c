use Rattle.std.proofs.Common.{◌≡◌, drop}
use Rattle.view_text.specs.Drawing.{all_have}
use Rattle.reset_list.proofs.texts.all_have.Given as goal

abbrev pub invariant-loop-node : goal.invariant-loop-node
invariant-loop-node l = all_have l.gap (drop l.node-index l.nodes) ≡ all_have l.gap l.nodes
