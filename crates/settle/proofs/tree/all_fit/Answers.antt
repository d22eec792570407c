use Rattle.std.proofs.Common.{length, refl, ap, arith}
use Rattle.settle.proofs.tree.all_fit.Goals as goal

pub returns : goal.returns
returns g c = (
  λ _ k inside. c.loop-node.invariant k (omega (arith, c.requires.there k inside, ap length c.cabling.ensures, c.nodes-node-end.ensures.value, c.loop-node-test.false)) inside,
  λ _. refl,
)
