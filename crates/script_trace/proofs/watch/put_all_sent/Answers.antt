use Rattle.std.proofs.Common.{arith}
use Rattle.script_trace.proofs.Walked.{next-sent}
use Rattle.script_trace.proofs.watch.put_all_sent.Goals as goal

pub loop-port-preserved : goal.loop-port-preserved
loop-port-preserved g c =
    next-sent c.args.front.now (g.W.WorldRun.world c.args.world.now) c.args.node c.loop-port.port c.there_at.result c.args.there.now c.args.ports.now
    c.loop-port.out.items _ _ (omega (arith, c.loop-port-test.true)) c.there_at.ensures c.in_ok-put_sent.ensures c.loop-port.invariant
