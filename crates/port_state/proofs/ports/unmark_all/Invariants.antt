use Rattle.std.proofs.Common.{◌≡◌, ◌++◌, map, take, drop}
use Rattle.port_state.specs.Entry.{without_marks}
use Rattle.port_state.proofs.ports.unmark_all.Given as goal

abbrev pub invariant-loop-at : goal.invariant-loop-at
invariant-loop-at l =
    take l.at l.views ++ map without_marks (drop l.at l.views) ≡ map without_marks l.initial.views
