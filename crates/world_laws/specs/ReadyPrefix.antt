-- The nodes that have identified themselves are the first of the walk.
use Rattle.std.specs.Prelude.{◌≡◌, ◌<◌, ◌≤◌, true, None, Some, length, slice_get}
use Rattle.topology_stack.specs.Tree.{Tree}
use Rattle.cabling.specs.NodeSet.{Holds}
use Rattle.cabling.specs.Component.{IsComponent}
use Rattle.cabling.specs.Labels.{labels}
use Rattle.cabling.specs.Looped.{IsCore}
use Rattle.cabling.specs.Sees.{Sees}
use Rattle.port_state.specs.Machine.{PortNode}
use Rattle.cable_world.specs.World.{CableWorld, NodeNumber, NodeSet}
use Rattle.cable_world.specs.Outcome.{attrs_now}
use Rattle.cable_world.specs.Run.{ComesOfPowerOn}
use Rattle.convergence.specs.Milestones.{AreIdentifying}
use Rattle.convergence.specs.Roots.{IsRoot}
use Rattle.outcomes.specs.NodeMarks.{is_ready}
use Rattle.outcomes.specs.Numbered.{IsSound, IsSettling}
use Rattle.outcomes.specs.RootWalk.{place_now}

-- where a node has, each node that comes before it in the walk of this tree from this root has too
abbrev pub AreReadyInTurn : CableWorld → NodeSet → NodeNumber → Tree → Type 0
AreReadyInTurn w set root t =
    (j k : NodeNumber) (x y : PortNode) → Holds set j → Holds set k →
    slice_get w.nodes j ≡ Some x → slice_get w.nodes k ≡ Some y →
    place_now w root t j ≤ place_now w root t k →
    is_ready y.state.view.phase ≡ true → is_ready x.state.view.phase ≡ true

abbrev pub ReadyNodesAreFirst : Type 0
ReadyNodesAreFirst =
    (w : CableWorld) (set core : NodeSet) (root : NodeNumber) (t : Tree) → IsSound w →
    IsSettling w set core root t → AreReadyInTurn w set root t

-- A set of nodes has a root, the cables show a tree from there, and in its walk nodes are ready in
-- turn.
pub record HaveTurns (w : CableWorld) (set : NodeSet) : Type 0 where
  pub root : NodeNumber
  pub inside : Holds set root
  pub is_root : IsRoot w root
  pub tree : Tree
  pub seen : Sees w.cabling (labels (attrs_now w)) root None tree
  pub in_turn : AreReadyInTurn w set root tree

-- so it is in each world that comes of power-on, of each component that identifies itself
abbrev pub IdentifyingNodesHaveTurns : Type 0
IdentifyingNodesHaveTurns =
    (w : CableWorld) (node : NodeNumber) (set core : NodeSet) → ComesOfPowerOn w →
    node < length w.nodes → IsComponent w.cabling node set → IsCore w.cabling set core →
    AreIdentifying w set → HaveTurns w set
