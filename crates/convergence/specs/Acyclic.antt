-- Child cables, along which the tree grows, form no cycle.
use Rattle.std.specs.Prelude.{◌≡◌, ℕ, ◌<◌, ◌≤◌, Bool, true, Some, slice_get}
use Rattle.cabling.specs.declared.cable.End.{End}
use Rattle.cabling.specs.Wiring.{far}
use Rattle.port_state.specs.Ports.{is_port}
use Rattle.port_state.specs.Machine.{PortNode}
use Rattle.cable_world.specs.World.{CableWorld}
use Rattle.cable_world.specs.Agreement.{leads_down}

-- a cable whose one end is a child port and whose other end is the parent port of its node
pub record IsChildCable (w : CableWorld) (a b : End) : Type 0 where
  pub joined : far w.cabling a ≡ Some b
  pub above : PortNode
  pub above_at : slice_get w.nodes a.node ≡ Some above
  pub child : leads_down above.state.view.ports a.port ≡ true
  pub below : PortNode
  pub below_at : slice_get w.nodes b.node ≡ Some below
  pub parent : is_port below.state.view.parent b.port ≡ true

-- Nodes have ranks that fall along each child cable.
pub record IsAcyclic (w : CableWorld) : Type 0 where
  pub rank : ℕ → ℕ
  pub most : ℕ
  pub bounded : (k : ℕ) → rank k ≤ most
  pub falls : (a b : End) → IsChildCable w a b → rank b.node < rank a.node

-- a member that no child cable enters from a member
pub record IsTop (w : CableWorld) (member : ℕ → Bool) (top : ℕ) : Type 0 where
  pub is : member top ≡ true
  pub none : (a b : End) → IsChildCable w a b → b.node ≡ top → member a.node ≡ true → ⊥

-- one that no child cable leaves to a member
pub record IsBottom (w : CableWorld) (member : ℕ → Bool) (bottom : ℕ) : Type 0 where
  pub is : member bottom ≡ true
  pub none : (a b : End) → IsChildCable w a b → a.node ≡ bottom → member b.node ≡ true → ⊥

-- a child cable leads from a node down to a member
pub record LeadsDown (w : CableWorld) (S : ℕ → Type 0) (k : ℕ) : Type 0 where
  pub from : End
  pub to : End
  pub cable : IsChildCable w from to
  pub is : from.node ≡ k
  pub member : S to.node

-- one comes from a member above
pub record ComesDown (w : CableWorld) (S : ℕ → Type 0) (k : ℕ) : Type 0 where
  pub from : End
  pub to : End
  pub cable : IsChildCable w from to
  pub is : to.node ≡ k
  pub member : S from.node

-- ---- sets of nodes

abbrev pub SetsHaveTops : Type 0
SetsHaveTops =
    (w : CableWorld) (member : ℕ → Bool) (k : ℕ) → IsAcyclic w → member k ≡ true →
    (top : ℕ) × IsTop w member top

abbrev pub SetsHaveBottoms : Type 0
SetsHaveBottoms =
    (w : CableWorld) (member : ℕ → Bool) (k : ℕ) → IsAcyclic w → member k ≡ true →
    (bottom : ℕ) × IsBottom w member bottom
