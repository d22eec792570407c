use Rattle.std.proofs.Common.{arith}
use Rattle.script_trace.proofs.Walked.{next-count}
use Rattle.script_trace.proofs.watch.counts.Goals as goal

pub loop-port-preserved : goal.loop-port-preserved
loop-port-preserved g c =
    next-count (g.W.WorldRun.world c.args.world.now) c.args.node c.loop-port.port _ c.args.ports.now c.loop-port.list.items _ _
    (omega (arith, c.loop-port-test.true)) c.in_ok-push.ensures.items c.count_under_way.ensures c.loop-port.invariant
