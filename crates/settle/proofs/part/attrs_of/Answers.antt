use Rattle.std.proofs.Common.{◌∙◌}
use Rattle.settle.proofs.Shown.{attrs-more}
use Rattle.settle.proofs.part.attrs_of.Goals as goal

pub loop-node-preserved : goal.loop-node-preserved
loop-node-preserved g c =
    c.in_ok-push.ensures.items
    ∙ attrs-more (g.W.WorldRun.world c.args.world.now) c.loop-node.node c.loop-node.attrs.items c.attrs.result c.attrs.ensures c.loop-node.invariant
