use Rattle.std.proofs.Common.{arith}
use Rattle.script_trace.proofs.waves.Walked.{next-variables}
use Rattle.script_trace.proofs.waves_head.put_all_port_variables.Goals as goal

pub loop-port-preserved : goal.loop-port-preserved
loop-port-preserved c =
    next-variables c.args.node c.loop-port.port c.args.ports.now c.loop-port.out.items _ _
    (omega (arith, c.loop-port-test.true)) c.in_ok-put_port_variables.ensures c.loop-port.invariant
