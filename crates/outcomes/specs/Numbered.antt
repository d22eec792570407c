-- Self identify in the order of the walk, below one root: whose list has what the nodes before it
-- emitted.
use Rattle.std.specs.Prelude.{◌≡◌, ℕ, ◌+◌, ◌^◌, ◌<◌, ◌≤◌, true, false, None, Some, slice_get, ◌*◌, length}
use Rattle.topology_stack.specs.Tree.{Tree}
use Rattle.cabling.specs.declared.cable.End.{End}
use Rattle.cabling.specs.Wiring.{far}
use Rattle.cabling.specs.NodeSet.{Holds}
use Rattle.cabling.specs.Component.{IsComponent}
use Rattle.cabling.specs.Looped.{IsCore}
use Rattle.outcomes.specs.WalkMarks.{mark}
use Rattle.outcomes.specs.Emit.{emit}
use Rattle.port_state.specs.declared.states.NodeState.{NodeState}
use Rattle.port_state.specs.Machine.{PortNode}
use Rattle.cable_world.specs.World.{CableWorld, wire_of, NodeNumber, NodeSet}
use Rattle.cable_world.specs.Signals.{signals_of}
use Rattle.cable_world.specs.Agreement.{leads_down}
use Rattle.outcomes.specs.NodeMarks.{is_ready, is_asked, is_named}
use Rattle.outcomes.specs.Messages.{silent, has_grant, has_done, kept}
use Rattle.outcomes.specs.Lists.{packets_from}
use Rattle.convergence.specs.Roots.{IsRoot}
use Rattle.convergence.specs.Milestones.{AreIdentifying}
use Rattle.outcomes.specs.RootWalk.{place_now, RootWalk}
use Rattle.cable_world.specs.Turn.{turn}
use Rattle.cable_world.specs.Quiet.{HoldSchedule, quiet_after}
use Rattle.cable_world.specs.Act.{hold, hold_fault}
use Rattle.cable_world.specs.Run.{ComesOfPowerOn}
use Rattle.cable_world.specs.Lawful.{IsLawful}
use Rattle.cable_world.specs.Outcome.{IsTree}
use Rattle.cabling.specs.Sees.{numbers}
use Rattle.port_state.specs.Ports.{is_unnamed, lowest}
use Rattle.port_state.specs.SelfIdentify.{may_name}
use Rattle.convergence.specs.Acyclic.{IsAcyclic}
use Rattle.convergence.specs.Turns.{seen_turns, turns_to_over}
use Rattle.outcomes.specs.Identify.{IsIdentifying}

-- the children at the ports before this one are named, and no other was asked
pub record StandsAt (x : NodeState) (p : ℕ) : Type 0 where
  pub named : (i : ℕ) → i < p → leads_down x.view.ports i ≡ true → is_named x i ≡ true
  pub unasked : (i : ℕ) → p ≤ i → is_asked x i ≡ false

pub record IsNumbered (w : CableWorld) (set root : ℕ) (t : Tree) : Type 0 where
  -- a node in A0 has its place as its ID
  pub ids :
      (k : ℕ) (x : PortNode) → Holds set k → slice_get w.nodes k ≡ Some x →
      is_ready x.state.view.phase ≡ true → x.state.view.id ≡ Some (place_now w root t k)
  -- a granted node that waits for no child has what the nodes before those below its next port
  -- emitted
  pub turns :
      (k p : ℕ) (x : PortNode) → Holds set k → slice_get w.nodes k ≡ Some x →
      x.state.view.granted ≡ true → is_ready x.state.view.phase ≡ false → p ≤ x.state.ports →
      StandsAt x.state p → x.state.list.items ≡ emit t (mark w.cabling root t 0 k p)
  -- with the packets under way to it, so has a node to which a Grant is under way, or Done of a
  -- child
  pub grants :
      (a b : End) (x : PortNode) → Holds set b.node → far w.cabling b ≡ Some a →
      slice_get w.nodes b.node ≡ Some x → has_grant (signals_of (wire_of w a).signals) ≡ true →
      kept x.state.list.items (packets_from w a) ≡ emit t (mark w.cabling root t 0 b.node 0)
  pub dones :
      (a b : End) (x : PortNode) → Holds set b.node → far w.cabling b ≡ Some a →
      slice_get w.nodes b.node ≡ Some x → has_done (signals_of (wire_of w a).signals) ≡ true →
      kept x.state.list.items (packets_from w a)
      ≡ emit t (mark w.cabling root t 0 b.node (b.port + 1))
  -- and in the end the root has all
  pub last :
      (k : ℕ) (x : PortNode) → Holds set k → slice_get w.nodes k ≡ Some x →
      is_ready x.state.view.phase ≡ true → x.state.view.parent ≡ None →
      x.state.list.items ≡ emit t (place_now w root t k + 1)

-- A component that identifies itself, from its root.
pub record IsSettling (w : CableWorld) (set core root : ℕ) (t : Tree) : Type 0 where
  pub component : IsComponent w.cabling root set
  pub is_core : IsCore w.cabling set core
  pub small : set < 2 ^ 63
  pub inside : Holds set root
  pub is_root : IsRoot w root
  pub walk : RootWalk w set root t
  pub all : AreIdentifying w set
  pub numbered : IsNumbered w set root t

-- So it does, from whichever root.
pub record Settles (w : CableWorld) (set core : ℕ) : Type 0 where
  pub root : ℕ
  pub tree : Tree
  pub is : IsSettling w set core root tree

-- In every component all of whose nodes are in self identify or A0 lists follow the walk.
pub record IsNumbering (w : CableWorld) : Type 0 where
  pub acyclic : IsAcyclic w
  pub identifies : IsIdentifying w
  pub walks :
      (node : NodeNumber) (set core : NodeSet) → node < length w.nodes →
      IsComponent w.cabling node set → IsCore w.cabling set core → set < 2 ^ 63 →
      AreIdentifying w set → Settles w set core

-- all nodes of a set are in A0, and no Grant, packet or Done is under way between them
pub record IsAtRest (w : CableWorld) (set : ℕ) : Type 0 where
  pub ready :
      (k : ℕ) (x : PortNode) → Holds set k → slice_get w.nodes k ≡ Some x →
      is_ready x.state.view.phase ≡ true
  pub silent :
      (a b : End) → Holds set a.node → far w.cabling a ≡ Some b →
      silent (signals_of (wire_of w a).signals) ≡ true

-- ---- laws

-- what is so of every world that comes of power-on
pub record IsSound (w : CableWorld) : Type 0 where
  pub lawful : IsLawful w
  pub acyclic : IsAcyclic w
  pub identifies : IsIdentifying w

-- it begins in the turn in which the last node comes to self identify
abbrev pub SettlingBegins : Type 0
SettlingBegins =
    (w : CableWorld) (set core : NodeSet) (root : NodeNumber) (t : Tree) → IsSound w →
    IsComponent w.cabling root set → IsCore w.cabling set core →
    Holds set root → IsRoot (turn w) root → RootWalk (turn w) set root t →
    AreIdentifying (turn w) set → (AreIdentifying w set → ⊥) → IsSettling (turn w) set core root t

abbrev pub TurnsKeepSettling : Type 0
TurnsKeepSettling =
    (w : CableWorld) (set core : NodeSet) (root : NodeNumber) (t : Tree) → IsSound w →
    IsSettling w set core root t → IsSettling (turn w) set core root t

abbrev pub HoldsKeepSettling : Type 0
HoldsKeepSettling =
    (end : End) (turns : ℕ) (w : CableWorld) (set core : NodeSet) (root : NodeNumber)
    (t : Tree) → hold_fault end w ≡ None → IsLawful w →
    IsSettling w set core root t → IsSettling (hold end turns w) set core root t

-- node number k has its turn: it is granted, and all its children are named
pub record IsNext (w : CableWorld) (set k : ℕ) (x : PortNode) : Type 0 where
  pub inside : Holds set k
  pub at : slice_get w.nodes k ≡ Some x
  pub granted : x.state.view.granted ≡ true
  pub unready : is_ready x.state.view.phase ≡ false
  pub named : lowest is_unnamed x.state.view.ports ≡ None

-- its list is what the nodes before it emitted
abbrev pub NextHasItsPrefix : Type 0
NextHasItsPrefix =
    (w : CableWorld) (set core : NodeSet) (root k : NodeNumber) (t : Tree) (x : PortNode) →
    IsSound w → IsSettling w set core root t → IsNext w set k x →
    x.state.list.items ≡ emit t (place_now w root t k)

-- and there is room for its group
abbrev pub NextHasRoom : Type 0
NextHasRoom =
    (w : CableWorld) (set core : NodeSet) (root k : NodeNumber) (t : Tree) (x : PortNode) →
    IsSound w → IsSettling w set core root t → IsNext w set k x → may_name x.state ≡ true

-- at rest it has come to its tree
abbrev pub RestIsTree : Type 0
RestIsTree =
    (w : CableWorld) (set core : NodeSet) (root : NodeNumber) (t : Tree) → IsSound w →
    IsSettling w set core root t → IsAtRest w set → IsTree w set root t

abbrev pub TurnsKeepRest : Type 0
TurnsKeepRest =
    (w : CableWorld) (set core : NodeSet) (root : NodeNumber) (t : Tree) → IsSound w →
    IsSettling w set core root t → IsAtRest w set →
    IsAtRest (turn w) set

abbrev pub HoldsKeepRest : Type 0
HoldsKeepRest =
    (end : End) (turns : ℕ) (w : CableWorld) (set : NodeSet) → hold_fault end w ≡ None →
    IsLawful w → IsAtRest w set → IsAtRest (hold end turns w) set

-- a component that identifies itself after k quiet turns
pub record SettlesFrom
    (holds : HoldSchedule) (w : CableWorld) (k : ℕ) (set core : NodeSet) (root : NodeNumber)
    (t : Tree)
    : Type 0 where
  pub comes : ComesOfPowerOn w
  pub late : turns_to_over w ≤ k
  pub is : IsSettling (quiet_after holds k w) set core root t

-- once at rest it keeps its tree
abbrev pub RestKeepsTree : Type 0
RestKeepsTree =
    (holds : HoldSchedule) (w : CableWorld) (set core : NodeSet) (root : NodeNumber) (j k : ℕ)
    (t : Tree) →
    SettlesFrom holds w k set core root t → IsAtRest (quiet_after holds k w) set →
    IsTree (quiet_after holds (k + j) w) set root t

-- all its nodes are in A0 within 4 n + 1 times what it takes until something is seen
abbrev pub NodesGetReady : Type 0
NodesGetReady =
    (holds : HoldSchedule) (w : CableWorld) (set core : NodeSet) (root : NodeNumber) (k : ℕ)
    (t : Tree) →
    SettlesFrom holds w k set core root t →
    (m : ℕ) × (m ≤ (4 * length (numbers (quiet_after holds k w).cabling root t) + 1) * seen_turns w)
    × ((q : NodeNumber) (x : PortNode) → Holds set q →
    slice_get (quiet_after holds (k + m) w).nodes q ≡ Some x → is_ready x.state.view.phase ≡ true)

-- it is at rest within 5 n times that
abbrev pub TreesComeToRest : Type 0
TreesComeToRest =
    (holds : HoldSchedule) (w : CableWorld) (set core : NodeSet) (root : NodeNumber) (k : ℕ)
    (t : Tree) →
    SettlesFrom holds w k set core root t →
    (m : ℕ) × (m ≤ 5 * length (numbers (quiet_after holds k w).cabling root t) * seen_turns w)
    × IsAtRest (quiet_after holds (k + m) w) set

-- and has its tree from there on
abbrev pub TreesAreThere : Type 0
TreesAreThere =
    (holds : HoldSchedule) (w : CableWorld) (set core : NodeSet) (root : NodeNumber) (j k : ℕ)
    (t : Tree) →
    SettlesFrom holds w k set core root t →
    5 * length (numbers (quiet_after holds k w).cabling root t) * seen_turns w ≤ j →
    IsTree (quiet_after holds (k + j) w) set root t
