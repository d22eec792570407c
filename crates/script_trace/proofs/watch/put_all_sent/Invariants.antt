use Rattle.std.proofs.Common.{◌≡◌, ◌++◌, drop}
use Rattle.script_trace.specs.Event.{all_sent_lines}
use Rattle.script_trace.proofs.watch.put_all_sent.Given as goal

abbrev pub invariant-loop-port : goal.invariant-loop-port
invariant-loop-port g l =
    let w = g.W.WorldRun.world l.world in
    l.out.items ++ all_sent_lines l.front w l.node l.there l.port (drop l.port l.ports)
    ≡ l.initial.out.items ++ all_sent_lines l.front w l.node l.there 0 l.ports
