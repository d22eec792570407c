use Rattle.std.proofs.Common.{map}
use Rattle.cabling.specs.NodeSet.{IsWithin}
use Rattle.cable_world.specs.Still.{hold_less}
use Rattle.world_agenda.proofs.Blend.{Blended}
use Rattle.world_agenda.proofs.live.pass_live.Given as goal

abbrev pub invariant-loop-node : goal.invariant-loop-node
invariant-loop-node l =
    let old = l.initial.wires in
    record {
      left : IsWithin l.left l.fn.live;
      wires : Blended l.left (map (map (hold_less l.turns)) old) old l.wires;
    }

abbrev pub decreases-loop-node : goal.decreases-loop-node
decreases-loop-node l = l.left
