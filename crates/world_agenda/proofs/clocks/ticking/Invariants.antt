use Rattle.std.proofs.Common.{◌≡◌, ◌≤◌, ℕ, Some, slice_get}
use Rattle.cabling.specs.NodeSet.{Holds, IsWithin}
use Rattle.port_state.specs.Clock.{TicksFor}
use Rattle.port_state.specs.Machine.{PortNode}
use Rattle.world_agenda.specs.Now.{now_at}
use Rattle.world_agenda.proofs.clocks.ticking.Given as goal

-- the nodes that are done tick for so long, and are those that aren't left
abbrev pub invariant-loop-node : goal.invariant-loop-node
invariant-loop-node g l = record {
  left : IsWithin l.left l.fn.slow;
  most : l.ticks ≤ l.most;
  ticks :
      (k : ℕ) (x : PortNode) → slice_get (now_at l.turns l.nodes) k ≡ Some x →
      (Holds l.left k → ⊥) → TicksFor l.ticks x.clock;
}

abbrev pub decreases-loop-node : goal.decreases-loop-node
decreases-loop-node g l = l.left
