-- Components that come to an outcome: a loop, a tree or a contention.
use Rattle.std.specs.Prelude.{◌≡◌, ℕ, Bool, ◌<◌, ◌≤◌, true, Option, Some, None, length, slice_get}
use Rattle.topology_stack.specs.Tree.{Tree}
use Rattle.cabling.specs.NodeSet.{Holds}
use Rattle.cabling.specs.Component.{IsComponent}
use Rattle.cabling.specs.Looped.{IsCore}
use Rattle.port_state.specs.Config.{gap_or}
use Rattle.port_state.specs.Machine.{PortNode}
use Rattle.cable_world.specs.World.{CableWorld, NodeNumber, NodeSet}
use Rattle.cable_world.specs.Quiet.{HoldSchedule, quiet_after}
use Rattle.cable_world.specs.Run.{ComesOfPowerOn, Rests}
use Rattle.cable_world.specs.declared.act.Act.TheVariants.{Config}
use Rattle.cable_world.specs.Act.{IsAct, act_fault}
use Rattle.cable_world.specs.Outcome.{HasNoLoop, AtView, IsLoop, IsTree, IsSettled}
use Rattle.convergence.specs.Milestones.{ResetsAreDone}
use Rattle.convergence.specs.Turns.{turns_to_settle, turns_to_over, turns_to_loops}
use Rattle.outcomes.specs.Forced.{SendsPacket, CanBeForcedAt, IsForced, IsNamedAlone, NamesRoot}

-- in quiet turns a component with a loop comes to the outcome Loop, and stays there
abbrev pub LoopsComeOut : Type 0
LoopsComeOut =
    (holds : HoldSchedule) (w : CableWorld) (k : ℕ) (node : NodeNumber) (set core : NodeSet)
    (member : NodeNumber) →
    ComesOfPowerOn w → turns_to_loops w ≤ k → IsComponent (quiet_after holds k w).cabling node set →
    IsCore (quiet_after holds k w).cabling set core → Holds core member →
    IsLoop (quiet_after holds k w) set core

-- after so many quiet turns, whatever holds are placed between them, every component has an
-- outcome
abbrev pub EveryComponentSettles : Type 0
EveryComponentSettles =
    (holds : HoldSchedule) (w : CableWorld) (k : ℕ) (node : NodeNumber) (set : NodeSet) →
    ComesOfPowerOn w → node < length w.nodes → IsComponent w.cabling node set →
    turns_to_settle w ≤ k → IsSettled (quiet_after holds k w) set

-- and no node is in R0 or R1 by then
abbrev pub ResetsAreDoneByThen : Type 0
ResetsAreDoneByThen =
    (holds : HoldSchedule) (w : CableWorld) (k : ℕ) → ComesOfPowerOn w →
    turns_to_settle w ≤ k → ResetsAreDone (quiet_after holds k w)

-- So every component has an outcome after so many quiet turns, one after the other.
abbrev pub EveryQuietRunSettles : Type 0
EveryQuietRunSettles =
    (w v : CableWorld) (k : ℕ) (node : NodeNumber) (set : NodeSet) → ComesOfPowerOn w →
    Rests k w v → turns_to_settle w ≤ k → node < length w.nodes →
    IsComponent w.cabling node set → IsSettled v set

-- what has an outcome after so many quiet turns has one still, whatever holds and turns follow
abbrev pub ComponentsStaySettled : Type 0
ComponentsStaySettled =
    (holds : HoldSchedule) (w v : CableWorld) (k more : ℕ) (node : NodeNumber) (set : NodeSet) →
    ComesOfPowerOn w → turns_to_settle w ≤ k → Rests more (quiet_after holds k w) v →
    node < length w.nodes → IsComponent w.cabling node set → IsSettled v set

-- a tree stays in every hold and turn: the same root, IDs and lists
abbrev pub TreesStay : Type 0
TreesStay =
    (w v : CableWorld) (k : ℕ) (node : NodeNumber) (set : NodeSet) (root : NodeNumber) (t : Tree) →
    ComesOfPowerOn w → Rests k w v → IsComponent w.cabling node set → IsTree w set root t →
    IsTree v set root t

-- ---- forced roots

-- where one node alone waits to become root, it is the root of the tree
abbrev pub ForcedRootsSettle : Type 0
ForcedRootsSettle =
    (holds : HoldSchedule) (w : CableWorld) (k : ℕ) (node : NodeNumber) (set : NodeSet)
    (root : NodeNumber) →
    ComesOfPowerOn w → IsForced w node set root → turns_to_settle w ≤ k →
    (t : Tree) × IsTree (quiet_after holds k w) set root t

-- in a tree an ID names one node
abbrev pub IdsNameOneNode : Type 0
IdsNameOneNode =
    (w : CableWorld) (set : NodeSet) (old root : NodeNumber) (id : ℕ) (t : Tree) →
    ComesOfPowerOn w → IsTree w set old t → Holds set root → AtView w root (λ v. v.id ≡ Some id) →
    IsNamedAlone w set root id

-- a configuration packet with R set makes the node that it names root, where it can be forced
abbrev pub ConfigsMoveRoots : Type 0
ConfigsMoveRoots =
    (holds : HoldSchedule) (w v : CableWorld) (k : ℕ) (from : NodeNumber) (id : ℕ) (gap : Option ℕ)
    (set : NodeSet) (root : NodeNumber) → ComesOfPowerOn w →
    IsAct (Config from id true gap) → act_fault (Config from id true gap) w ≡ None →
    NamesRoot w v from id gap set root → CanBeForcedAt v root → HasNoLoop w set →
    turns_to_settle v ≤ k →
    (t : Tree) × IsTree (quiet_after holds k v) set root t

-- from n d turns on each node of the component has the gap count that the packet gave
abbrev pub ConfigsSetGaps : Type 0
ConfigsSetGaps =
    (holds : HoldSchedule) (w v : CableWorld) (k : ℕ) (from : NodeNumber) (id : ℕ)
    (gap : Option ℕ) (set : NodeSet) (root j : NodeNumber) (x y : PortNode) → ComesOfPowerOn w →
    IsAct (Config from id true gap) → act_fault (Config from id true gap) w ≡ None →
    NamesRoot w v from id gap set root → turns_to_over v ≤ k → Holds set j →
    slice_get w.nodes j ≡ Some x → slice_get (quiet_after holds k v).nodes j ≡ Some y →
    y.state.view.gap ≡ gap_or gap x.state.view.next_gap

-- So it is of every packet, with R set or not, where no node of the component is in R0 or R1.
abbrev pub PacketsSetGaps : Type 0
PacketsSetGaps =
    (holds : HoldSchedule) (w v : CableWorld) (k : ℕ) (from : NodeNumber) (id : ℕ) (force : Bool)
    (gap : Option ℕ) (set : NodeSet) (j : NodeNumber) (x y : PortNode) → ComesOfPowerOn w →
    IsAct (Config from id force gap) → act_fault (Config from id force gap) w ≡ None →
    SendsPacket w v from id force gap set → turns_to_over v ≤ k → Holds set j →
    slice_get w.nodes j ≡ Some x → slice_get (quiet_after holds k v).nodes j ≡ Some y →
    y.state.view.gap ≡ gap_or gap x.state.view.next_gap
