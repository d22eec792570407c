-- The walk of the tree that has formed below a root.
use Rattle.std.specs.Prelude.{◌≡◌, ℕ, ◌+◌, ◌<◌, ◌≤◌, Bool, false, Option, Some, None, [], ◌++◌, length, slice_get}
use Rattle.topology_stack.specs.Tree.{Tree, emits}
use Rattle.cabling.specs.declared.cable.End.{End}
use Rattle.cabling.specs.NodeSet.{Holds}
use Rattle.cabling.specs.Labels.{labels}
use Rattle.cabling.specs.Sees.{Sees, numbers}
use Rattle.outcomes.specs.Parents.{ParentsAre}
use Rattle.outcomes.specs.WalkMarks.{mark, place, Marked}
use Rattle.outcomes.specs.Emit.{emit}
use Rattle.outcomes.specs.Intervals.{LeadsToChild}
use Rattle.outcomes.specs.InTurn.{InTurn, ReadyFirst}
use Rattle.port_state.specs.Group.{own_group}
use Rattle.self_id.specs.Group.{node_count}
use Rattle.port_state.specs.Machine.{PortNode}
use Rattle.cable_world.specs.World.{CableWorld, NodeNumber, NodeSet}
use Rattle.cable_world.specs.Agreement.{leads_down}
use Rattle.cable_world.specs.Outcome.{attrs_now, IsTree}
use Rattle.convergence.specs.Acyclic.{IsChildCable, IsAcyclic}
use Rattle.cabling.specs.Component.{IsComponent}
use Rattle.cable_world.specs.Lawful.{IsLawful}
use Rattle.convergence.specs.Milestones.{ResetsAreOverIn}
use Rattle.convergence.specs.Roots.{IsRoot}
use Rattle.outcomes.specs.Alike.{Alike}

abbrev pub parent_of : Option PortNode → Option ℕ
parent_of None = None
parent_of (Some x) = x.state.view.parent

-- the parent port of each node, by number
abbrev pub parent_now : CableWorld → ℕ → Option ℕ
parent_now w k = parent_of (slice_get w.nodes k)

-- the place of each node in the walk from the root
abbrev pub place_now : CableWorld → ℕ → Tree → ℕ → ℕ
place_now w root t k = place w.cabling (mark w.cabling root t 0) k

-- A root's walk, for proofs about single cables. The cables show the tree from the root, its parent
-- ports are those of the nodes, and its list is the nodes' own groups, one after the other. Of each
-- part of the list that such groups make, the packet zeros number the nodes.
pub record RootWalk (w : CableWorld) (set root : ℕ) (t : Tree) : Type 0 where
  pub seen : Sees w.cabling (labels (attrs_now w)) root None t
  pub parents : ParentsAre w.cabling (parent_now w) root None t
  pub few : length (numbers w.cabling root t) ≤ 63
  pub marked :
      Marked w.cabling (parent_now w) set root (numbers w.cabling root t) (mark w.cabling root t 0)
  -- along each child cable
  pub along :
      (a b : End) → Holds set a.node → IsChildCable w a b →
      (mark w.cabling root t 0 b.node 0 ≡ mark w.cabling root t 0 a.node a.port)
      × (mark w.cabling root t 0 a.node (a.port + 1) ≡ place_now w root t b.node + 1)
  -- past ports that lead to no child
  pub flat :
      (k p q : ℕ) (x : PortNode) → Holds set k → slice_get w.nodes k ≡ Some x → p ≤ q →
      q ≤ x.state.ports → ((i : ℕ) → p ≤ i → i < q → leads_down x.state.view.ports i ≡ false) →
      mark w.cabling root t 0 k q ≡ mark w.cabling root t 0 k p
  pub last :
      (k : ℕ) (x : PortNode) → slice_get w.nodes k ≡ Some x →
      mark w.cabling root t 0 k x.state.ports ≡ place_now w root t k
  -- each port but the parent port leads down a child cable
  pub children :
      (k p : ℕ) (b : End) → Holds set k → LeadsToChild w.cabling (parent_now w) k p b →
      IsChildCable w (record { node = k; port = p }) b
  -- nodes that become ready in turn, cable by cable, become ready in the order of the walk
  pub in_turn :
      (turn ready : ℕ → Bool) → InTurn w.cabling (parent_now w) set turn ready →
      ReadyFirst w.cabling set (mark w.cabling root t 0) turn ready
  pub none : emit t 0 ≡ []
  pub all : emit t (length (numbers w.cabling root t)) ≡ emits t
  pub next :
      (k : ℕ) (x : PortNode) → Holds set k → slice_get w.nodes k ≡ Some x →
      emit t (place_now w root t k + 1) ≡ emit t (place_now w root t k)
      ++ own_group x.state (place_now w root t k)
  pub counts : (m : ℕ) → m ≤ length (numbers w.cabling root t) → node_count (emit t m) ≡ m

-- what is so of a root's walk once all nodes are named and have the list
pub record IsNamed (w : CableWorld) (set root : ℕ) (t : Tree) : Type 0 where
  pub ids :
      (k : ℕ) (x : PortNode) → Holds set k → slice_get w.nodes k ≡ Some x →
      x.state.view.id ≡ Some (place_now w root t k)
  pub lists :
      (k : ℕ) (x : PortNode) → Holds set k → slice_get w.nodes k ≡ Some x →
      x.state.list.items ≡ emits t

-- the second world shows the same tree with the same marks
pub record SameWalk (w v : CableWorld) (set root : ℕ) (t u : Tree) : Type 0 where
  pub tree : t ≡ u
  pub marks : (k p : ℕ) → mark w.cabling root t 0 k p ≡ mark v.cabling root u 0 k p
  pub places : (k : ℕ) → Holds set k → place_now w root t k ≡ place_now v root u k

-- ---- laws

-- a root of a component in which resets are over
pub record HasRoot (w : CableWorld) (node : NodeNumber) (set : NodeSet) (root : NodeNumber)
    : Type 0 where
  pub lawful : IsLawful w
  pub acyclic : IsAcyclic w
  pub over : ResetsAreOverIn w set
  pub component : IsComponent w.cabling node set
  pub inside : Holds set root
  pub is_root : IsRoot w root

abbrev pub RootsHaveWalks : Type 0
RootsHaveWalks =
    (w : CableWorld) (node : NodeNumber) (set : NodeSet) (root : NodeNumber) →
    HasRoot w node set root → (t : Tree) × RootWalk w set root t

-- where all nodes are named and have the list, the component has come to its tree
abbrev pub NamedRootsAreOutcomes : Type 0
NamedRootsAreOutcomes =
    (w : CableWorld) (node : NodeNumber) (set : NodeSet) (root : NodeNumber) (t : Tree) →
    HasRoot w node set root → RootWalk w set root t → IsNamed w set root t →
    IsTree w set root t

-- a world in which the component has the same ports and attributes has the same walk there
abbrev pub WalksStay : Type 0
WalksStay =
    (w v : CableWorld) (node : NodeNumber) (set : NodeSet) (root : NodeNumber)
    (t u : Tree) → HasRoot w node set root →
    RootWalk w set root t → RootWalk v set root u →
    Alike w.cabling v.cabling (labels (attrs_now w)) (labels (attrs_now v)) set →
    SameWalk w v set root t u
