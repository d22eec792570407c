use Rattle.std.proofs.Common.{◌≡◌, ◌++◌, drop}
use Rattle.cable_world.specs.World.{wire_of}
use Rattle.script_trace.specs.waves.Change.{sent_changes}
use Rattle.script_trace.proofs.waves_listener.put_sent.Given as goal

abbrev pub invariant-loop-travelling : goal.invariant-loop-travelling
invariant-loop-travelling g l =
    let signals = (wire_of (g.W.WorldRun.world l.world) l.end).signals in
    l.out.items ++ sent_changes l.end.node l.end.port l.travelling-iterator
    ≡ l.initial.out.items ++ sent_changes l.end.node l.end.port (drop l.there signals)
