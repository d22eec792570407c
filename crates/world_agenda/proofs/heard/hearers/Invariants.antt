use Rattle.std.proofs.Common.{ℕ, [], length, slice_index_or}
use Rattle.cabling.specs.NodeSet.{Holds, IsWithin}
use Rattle.world_agenda.specs.Agenda.{AreBelow}
use Rattle.world_agenda.specs.Heard.{GivesBut}
use Rattle.world_agenda.proofs.heard.hearers.Given as goal

abbrev pub invariant-loop-node : goal.invariant-loop-node
invariant-loop-node l = record {
  left : IsWithin l.left l.fn.givers;
  gives : (k : ℕ) → (Holds l.left k → ⊥) → GivesBut l.heard l.cabling k (slice_index_or l.arrivals k []);
  below : AreBelow l.heard.nodes (length l.cabling);
}

abbrev pub decreases-loop-node : goal.decreases-loop-node
decreases-loop-node l = l.left
