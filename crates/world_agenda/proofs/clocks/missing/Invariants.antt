use Rattle.std.proofs.Common.{◌≡◌, ℕ, false, Some, slice_get}
use Rattle.cabling.specs.NodeSet.{Holds, IsWithin}
use Rattle.port_state.specs.Clock.{misses}
use Rattle.port_state.specs.Machine.{PortNode}
use Rattle.world_agenda.specs.Now.{now_at}
use Rattle.world_agenda.proofs.clocks.missing.Given as goal

-- of the nodes that aren't left those that miss the turn are noted
abbrev pub invariant-loop-node : goal.invariant-loop-node
invariant-loop-node g l = record {
  left : IsWithin l.left l.fn.slow;
  ticks :
      (k : ℕ) (x : PortNode) → slice_get (now_at l.turns l.nodes) k ≡ Some x →
      (Holds l.left k → ⊥) → (Holds l.missing k → ⊥) → misses x.clock ≡ false;
}

abbrev pub decreases-loop-node : goal.decreases-loop-node
decreases-loop-node g l = l.left
