-- What belongs together by cables.
use Rattle.std.specs.Prelude.{◌≡◌, ℕ, Some}
use Rattle.cabling.specs.declared.cable.End.{End}
use Rattle.cabling.specs.Wiring.{Wiring, NodeNumber, far}
use Rattle.cabling.specs.NodeSet.{Nodes, Holds, IsWithin}

-- a cable leads from the one node to the other
pub record IsNeighbour (c : Wiring) (node other : NodeNumber) : Type 0 where
  pub port : ℕ
  pub end : End
  pub joined : far c (record { node = node; port = port }) ≡ Some end
  pub is : end.node ≡ other

-- no cable leads out of the set
abbrev pub IsClosed : Wiring → Nodes → Type 0
IsClosed c set = (a b : End) → far c a ≡ Some b → Holds set a.node → Holds set b.node

-- the component of a node: the least set that holds the node and is closed under cables
pub record IsComponent (c : Wiring) (node : NodeNumber) (set : Nodes) : Type 0 where
  pub holds : Holds set node
  pub closed : IsClosed c set
  pub least : (other : Nodes) → Holds other node → IsClosed c other → IsWithin set other

-- the nodes of a component share it
abbrev pub SharesComponents : Wiring → Type 0
SharesComponents c =
    (a b : NodeNumber) (set : Nodes) → IsComponent c a set → Holds set b → IsComponent c b set

-- a set out of which no cable leads holds the component of each of its nodes
abbrev pub ClosedSetsHoldComponents : Wiring → Type 0
ClosedSetsHoldComponents c =
    (node : NodeNumber) (set other : Nodes) →
    IsComponent c node set → Holds other node → IsClosed c other →
    IsWithin set other
