use Rattle.std.proofs.Common.{◌≡◌, ◌++◌, length}
use Rattle.port_state.specs.PortSet.{on_ports, all_sent}
use Rattle.port_state.proofs.pairs.PairsIterator.next.Given as goal

abbrev pub invariant-loop-first : goal.invariant-loop-first
invariant-loop-first l =
    on_ports l.self-inside.ports l.self-inside.signal ++ all_sent l.self-inside.entries.now
    ≡ on_ports l.initial.self-inside.ports l.initial.self-inside.signal ++ all_sent l.initial.self-inside.entries.now

abbrev pub decreases-loop-first : goal.decreases-loop-first
decreases-loop-first l = length l.self-inside.entries.now
