use Rattle.std.proofs.Common.{arith}
use Rattle.reset_list.specs.Losses.{back_on}
use Rattle.reset_list.proofs.Over.{written_more}
use Rattle.reset_list.proofs.losses.back_each.Goals as goal

pub loop-loss-preserved : goal.loop-loss-preserved
loop-loss-preserved c =
    written_more (back_on c.args.card c.args.now c.args.cable) c.deref_mut-loss-items.result.now c.loop-loss.loss-items c.loop-loss.loss-index _ c.back_on.result
    c.loop-loss-test.true (omega (arith, c.loop-loss-test.true, c.loop-loss.auto.loss-items)) c.loop-loss.invariant c.back_on.ensures
