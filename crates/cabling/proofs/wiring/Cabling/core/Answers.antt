use Rattle.cabling.proofs.Stripping.{stripped_first, stripped_stays, stripped_goes, stripped_last}
use Rattle.cabling.proofs.wiring.Cabling.core.Goals as goal

pub loop-node-init : goal.loop-node-init
loop-node-init c = stripped_first c.args.self.now c.args.set

pub loop-node-preserved-then-not-has_two : goal.loop-node-preserved-then-not-has_two
loop-node-preserved-then-not-has_two c =
    stripped_goes c.args.self.now c.args.set c.loop-node.core c.loop-node.doubtful c.in-Some.node c.remove.new.self c.remove-then-not-has_two.new.self c.neighbours.result c.union.result c.intersection-doubtful.result
    c.cables_are_two_ended.ensures c.loop-node.invariant c.if-not-has_two.ensures
    (record { gone = c.remove-then-not-has_two.ensures.gone; others = c.remove-then-not-has_two.ensures.others; less_gone = c.remove.ensures.gone; less_others = c.remove.ensures.others; close_is = c.neighbours.ensures.members; both_is = c.union.ensures.members; after = c.intersection-doubtful.ensures.members })

pub loop-node-preserved : goal.loop-node-preserved
loop-node-preserved c = stripped_stays c.args.self.now c.args.set c.loop-node.core c.loop-node.doubtful c.in-Some.node c.remove.new.self c.loop-node.invariant c.if-not-has_two.ensures c.remove.ensures.gone c.remove.ensures.others

pub returns : goal.returns
returns c = stripped_last c.args.self.now c.args.set c.loop-node.core c.loop-node.doubtful c.loop-node.invariant c.in_default.ensures.none
