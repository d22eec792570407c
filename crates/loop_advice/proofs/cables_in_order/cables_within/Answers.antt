use Rattle.std.proofs.Common.{arith}
use Rattle.loop_advice.proofs.Collecting.{collected_all}
use Rattle.loop_advice.proofs.cables_in_order.cables_within.Goals as goal

pub returns : goal.returns
returns c = collected_all c.args.cabling.now c.args.set c.loop-node.node c.loop-node.list c.cables_are_two_ended.ensures c.requires (omega (arith, c.loop-node-test.false, c.nodes-node-end.ensures.value)) c.loop-node.invariant
