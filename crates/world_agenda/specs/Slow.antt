-- Of which nodes the clocks may miss turns.
use Rattle.std.specs.Prelude.{◌≡◌, true, ℕ, List, Some, length, slice_get}
use Rattle.cabling.specs.NodeSet.{Nodes, Holds}
use Rattle.port_state.specs.Clock.{is_even}
use Rattle.port_state.specs.Machine.{PortNode}
use Rattle.world_agenda.specs.Agenda.{AreBelow}

-- the set has each node whose clock isn't even
pub record HasSlow (slow : Nodes) (nodes : List PortNode) : Type 0 where
  pub near : AreBelow slow (length nodes)
  pub evens :
      (k : ℕ) (x : PortNode) → slice_get nodes k ≡ Some x → (Holds slow k → ⊥) →
      is_even x.clock ≡ true
