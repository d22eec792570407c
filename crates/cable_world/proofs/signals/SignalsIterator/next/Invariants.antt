use Rattle.std.proofs.Common.{◌≡◌, length, drop}
use Rattle.cable_world.specs.running.Rows.{on_port}
use Rattle.cable_world.proofs.signals.SignalsIterator.next.Given as goal

abbrev pub invariant-loop-first : goal.invariant-loop-first
invariant-loop-first l =
    drop l.self-inside.past (on_port l.self-inside.port l.self-inside.sent.now)
    ≡ drop l.initial.self-inside.past (on_port l.initial.self-inside.port l.initial.self-inside.sent.now)

abbrev pub decreases-loop-first : goal.decreases-loop-first
decreases-loop-first l = length l.self-inside.sent.now
