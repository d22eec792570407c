use Rattle.std.proofs.Common.{◌≡◌, map}
use Rattle.cable_world.specs.Wire.{arrives, stays}
use Rattle.cable_world.proofs.running.Mixed.{mixed}
use Rattle.cable_world.proofs.all_nodes.turn_wires.Given as goal

abbrev pub invariant-loop-at : goal.invariant-loop-at
invariant-loop-at l =
    let old = l.initial.wires in
    record {
      wires : l.wires ≡ mixed l.at (map (map (stays l.delay)) old) old;
      arrivals : l.arrivals ≡ mixed l.at (map (map (arrives l.delay)) old) l.initial.arrivals;
    }
