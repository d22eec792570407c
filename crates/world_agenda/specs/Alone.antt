-- Nodes that a turn leaves alone.
use Rattle.std.specs.Prelude.{◌≡◌, false, List, [], ◌∷◌, Some, slice_get}
use Rattle.cabling.specs.NodeSet.{Nodes, Holds}
use Rattle.port_state.specs.Clock.{misses}
use Rattle.port_state.specs.Machine.{PortNode}
use Rattle.port_state.specs.Names.{timer, KeepsBut}
use Rattle.cable_world.specs.World.{CableWorld, NodeNumber}
use Rattle.cable_world.specs.Turn.{turn_at}

-- node number k, which is x, ticks in the next turn, sends nothing, and no more than its timer changes
pub record TurnLeavesAlone (w : CableWorld) (k : NodeNumber) (x : PortNode) : Type 0 where
  pub ticks : misses x.clock ≡ false
  pub sends : (turn_at w k x).sends ≡ []
  pub state : KeepsBut (timer ∷ []) x.state (turn_at w k x).node.state

-- so it is for each node that isn't in the set
abbrev pub LeavesAloneBut : Nodes → CableWorld → Type 0
LeavesAloneBut set w =
    (k : NodeNumber) (x : PortNode) → slice_get w.nodes k ≡ Some x → (Holds set k → ⊥) →
    TurnLeavesAlone w k x

-- the clock of each node that isn't in the set ticks in the next turn
abbrev pub TickBut : Nodes → List PortNode → Type 0
TickBut set nodes =
    (k : NodeNumber) (x : PortNode) → slice_get nodes k ≡ Some x → (Holds set k → ⊥) →
    misses x.clock ≡ false
