use Rattle.std.proofs.Common.{◌≡◌, ◌++◌, map, take, drop}
use Rattle.port_state.specs.TreeIdentify.{adopt}
use Rattle.port_state.proofs.ports.adopt_each.Given as goal

abbrev pub invariant-loop-at : goal.invariant-loop-at
invariant-loop-at l =
    take l.at l.views ++ map adopt (drop l.at l.views) ≡ map adopt l.initial.views
