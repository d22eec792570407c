-- Nodes that took their roles, in a phase after the standard's state T0, and roots among them.
use Rattle.std.specs.Prelude.{◌≡◌, ℕ, true, false, None, Some, slice_get}
use Rattle.cabling.specs.NodeSet.{Holds}
use Rattle.cabling.specs.Component.{IsComponent}
use Rattle.cabling.specs.Looped.{IsCore}
use Rattle.port_state.specs.Machine.{PortNode}
use Rattle.cable_world.specs.World.{CableWorld, NodeNumber, NodeSet}
use Rattle.cable_world.specs.Phases.{is_before_tree}
use Rattle.cable_world.specs.Outcome.{AtView}

-- node number k took its roles
pub record IsLate (w : CableWorld) (k : ℕ) : Type 0 where
  pub node : PortNode
  pub at : slice_get w.nodes k ≡ Some node
  pub late : is_before_tree node.state.view.phase ≡ false

-- and has no parent port
pub record IsRoot (w : CableWorld) (k : ℕ) : Type 0 where
  pub node : PortNode
  pub at : slice_get w.nodes k ≡ Some node
  pub late : is_before_tree node.state.view.phase ≡ false
  pub parentless : node.state.view.parent ≡ None

-- each node of a loop is in a phase up to T0
abbrev pub LoopsAreUndecided : CableWorld → Type 0
LoopsAreUndecided w =
    (set core : NodeSet) (k : NodeNumber) → IsCore w.cabling set core → Holds core k →
    AtView w k (λ v. is_before_tree v.phase ≡ true)

-- each component has one root at most
abbrev pub RootsAreAlone : CableWorld → Type 0
RootsAreAlone w =
    (node : NodeNumber) (set : NodeSet) (a b : NodeNumber) → IsComponent w.cabling node set →
    Holds set a → Holds set b → IsRoot w a → IsRoot w b → a ≡ b

pub record IsUndecidedInLoops (w : CableWorld) : Type 0 where
  pub loops : LoopsAreUndecided w
  pub roots : RootsAreAlone w

-- where a component has a root, every node of it took its roles
abbrev pub RootsHaveTrees : CableWorld → Type 0
RootsHaveTrees w =
    (node : NodeNumber) (set : NodeSet) (root k : NodeNumber) (x : PortNode) →
    IsComponent w.cabling node set → Holds set root → IsRoot w root →
    Holds set k → slice_get w.nodes k ≡ Some x → is_before_tree x.state.view.phase ≡ false

-- a component with a loop has no root
abbrev pub LoopsHaveNoRoot : CableWorld → Type 0
LoopsHaveNoRoot w =
    (node : NodeNumber) (set core : NodeSet) (root k : NodeNumber) →
    IsComponent w.cabling node set → IsCore w.cabling set core → Holds core k →
    Holds set root → IsRoot w root → ⊥
