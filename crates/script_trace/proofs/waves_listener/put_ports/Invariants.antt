use Rattle.std.proofs.Common.{◌≡◌, ◌++◌, drop}
use Rattle.script_trace.specs.waves.Change.{all_port_changes}
use Rattle.script_trace.proofs.waves_listener.put_ports.Given as goal

abbrev pub invariant-loop-port : goal.invariant-loop-port
invariant-loop-port g l =
    let w = g.W.WorldRun.world l.world in
    l.out.items ++ all_port_changes w l.node l.seen l.view l.port (drop l.port l.view.ports)
    ≡ l.initial.out.items ++ all_port_changes w l.node l.seen l.view 0 l.view.ports
