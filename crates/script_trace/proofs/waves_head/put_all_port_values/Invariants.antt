use Rattle.std.proofs.Common.{◌≡◌, ◌++◌, drop}
use Rattle.script_trace.specs.waves.Head.{all_port_values}
use Rattle.script_trace.proofs.waves_head.put_all_port_values.Given as goal

abbrev pub invariant-loop-port : goal.invariant-loop-port
invariant-loop-port l =
    l.out.items ++ all_port_values l.node l.port (drop l.port l.ports)
    ≡ l.initial.out.items ++ all_port_values l.node 0 l.ports
