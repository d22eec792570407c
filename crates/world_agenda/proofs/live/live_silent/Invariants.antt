use Rattle.std.proofs.Common.{ℕ, [], All, get_or}
use Rattle.cabling.specs.NodeSet.{Holds, IsWithin}
use Rattle.cable_world.specs.Still.{IsSilent}
use Rattle.world_agenda.proofs.live.live_silent.Given as goal

abbrev pub invariant-loop-node : goal.invariant-loop-node
invariant-loop-node l = record {
  left : IsWithin l.left l.fn.live;
  silent : (k : ℕ) → (Holds l.left k → ⊥) → All IsSilent (get_or l.wires k []);
}

abbrev pub decreases-loop-node : goal.decreases-loop-node
decreases-loop-node l = l.left
