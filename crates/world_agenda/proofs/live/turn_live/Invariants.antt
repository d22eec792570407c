use Rattle.std.proofs.Common.{ℕ, [], ◌<◌, length, map, get_or}
use Rattle.cabling.specs.NodeSet.{Holds}
use Rattle.cable_world.specs.Wire.{arrives, stays}
use Rattle.cable_world.specs.running.Rest.{AreAtRest, AreNone}
use Rattle.world_agenda.specs.Agenda.{AreBelow}
use Rattle.world_agenda.proofs.Blend.{Blended}
use Rattle.world_agenda.proofs.live.turn_live.Given as goal

abbrev pub invariant-loop-node : goal.invariant-loop-node
invariant-loop-node l =
    let old = l.initial.wires in
    record {
      left : (k : ℕ) → Holds l.left k → k < length old;
      wires : Blended l.left (map (map (stays l.delay)) old) old l.wires;
      arrivals : Blended l.left (map (map (arrives l.delay)) old) l.initial.arrivals l.arrivals;
      near : AreBelow l.still (length old);
      rest : (k : ℕ) → (Holds l.left k → ⊥) → (Holds l.still k → ⊥) → AreAtRest (get_or l.wires k []);
      giving : AreBelow l.giving (length old);
      none : (k : ℕ) → (Holds l.left k → ⊥) → (Holds l.giving k → ⊥) → AreNone (get_or l.arrivals k []);
    }

abbrev pub decreases-loop-node : goal.decreases-loop-node
decreases-loop-node l = l.left
