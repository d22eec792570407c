use Rattle.std.proofs.Common.{arith}
use Rattle.std.proofs.lemmas.Grind.{common_steps}
use Rattle.port_state.proofs.Lemmas.{ports-from}
use Rattle.script_trace.proofs.waves_listener.put_ports.Goals as goal

pub loop-port-preserved : goal.loop-port-preserved
loop-port-preserved g c =
    let rest = ports-from c.args.view.now.ports c.loop-port.port c.get.result c.get.ensures in
    grind (arith, common_steps, rest)
