use Rattle.std.proofs.Common.{◌≡◌, ◌++◌, drop}
use Rattle.script_trace.specs.Step.{counts_from}
use Rattle.script_trace.proofs.watch.counts.Given as goal

abbrev pub invariant-loop-port : goal.invariant-loop-port
invariant-loop-port g l =
    let w = g.W.WorldRun.world l.world in
    l.list.items ++ counts_from w l.node l.port (drop l.port l.ports)
    ≡ counts_from w l.node 0 l.ports
