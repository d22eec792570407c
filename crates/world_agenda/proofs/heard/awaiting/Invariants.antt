use Rattle.std.proofs.Common.{ℕ, [], slice_index_or}
use Rattle.cabling.specs.NodeSet.{Holds, IsWithin}
use Rattle.world_agenda.specs.Heard.{SendsBut}
use Rattle.world_agenda.proofs.heard.awaiting.Given as goal

abbrev pub invariant-loop-node : goal.invariant-loop-node
invariant-loop-node l = record {
  left : IsWithin l.left l.fn.live;
  sends : (k : ℕ) → (Holds l.left k → ⊥) → SendsBut l.nodes l.cabling k (slice_index_or l.wires k []);
}

abbrev pub decreases-loop-node : goal.decreases-loop-node
decreases-loop-node l = l.left
