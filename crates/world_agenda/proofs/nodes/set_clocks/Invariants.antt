use Rattle.std.proofs.Common.{◌≡◌, map}
use Rattle.cabling.specs.NodeSet.{Holds, IsWithin}
use Rattle.cable_world.specs.running.ActEnds.{AreSameBut}
use Rattle.world_agenda.specs.Agenda.{AreAtBut}
use Rattle.world_agenda.proofs.nodes.set_clocks.Given as goal

abbrev pub invariant-loop-node : goal.invariant-loop-node
invariant-loop-node g l =
    let f = g.M.PortMachine.record_of in
    record {
      left : IsWithin l.left l.fn.set;
      others : AreAtBut l.left l.turns (map (λ n. n.clock) l.nodes);
      nodes : map (λ n. f n.machine) l.nodes ≡ map (λ n. f n.machine) l.initial.nodes;
      same : AreSameBut (Holds l.fn.set) l.initial.nodes l.nodes;
    }

abbrev pub decreases-loop-node : goal.decreases-loop-node
decreases-loop-node g l = l.left
