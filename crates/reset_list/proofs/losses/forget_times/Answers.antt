use Rattle.std.proofs.Common.{arith}
use Rattle.reset_list.specs.Losses.{unknown}
use Rattle.reset_list.proofs.Over.{written_more}
use Rattle.reset_list.proofs.losses.forget_times.Goals as goal

pub loop-loss-preserved : goal.loop-loss-preserved
loop-loss-preserved c =
    written_more (unknown c.args.card) c.deref_mut-loss-items.result.now c.loop-loss.loss-items c.loop-loss.loss-index _ c.unknown.result
    c.loop-loss-test.true (omega (arith, c.loop-loss-test.true, c.loop-loss.auto.loss-items)) c.loop-loss.invariant c.unknown.ensures
