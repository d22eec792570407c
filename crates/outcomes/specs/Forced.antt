-- A node that waits to become root, and the others that don't.
use Rattle.std.specs.Prelude.{◌≡◌, ◌≢◌, ℕ, ◌≤◌, Bool, true, false, Some, IsSome, slice_get, if◌then◌else◌, ◌+◌, ◌-◌, ◌*◌, ◌<◌, Option, length}
use Rattle.cabling.specs.NodeSet.{Holds}
use Rattle.port_state.specs.declared.view.View.{View}
use Rattle.port_state.specs.Heard.{is_resetting}
use Rattle.port_state.specs.Machine.{PortNode}
use Rattle.convergence.specs.Turns.{seen_turns, turns_to_done}
use Rattle.cable_world.specs.Times.{CanBeForced}
use Rattle.cable_world.specs.World.{CableWorld, NodeNumber, NodeSet}
use Rattle.cable_world.specs.Phases.{is_before_tree, is_in_bus_reset}
use Rattle.cable_world.specs.Outcome.{HasNoLoop, AtView}
use Rattle.convergence.specs.Roots.{IsRoot}
use Rattle.topology_stack.specs.Tree.{Tree}
use Rattle.cabling.specs.Component.{IsComponent}
use Rattle.port_state.specs.Config.{gap_or}
use Rattle.cable_world.specs.Quiet.{HoldSchedule, quiet_after}
use Rattle.cable_world.specs.Act.{ActLeads}
use Rattle.cable_world.specs.declared.act.Act.TheVariants.{Config}
use Rattle.cable_world.specs.Lawful.{IsLawful}
use Rattle.cable_world.specs.Fresh.{IsFresh}
use Rattle.convergence.specs.Acyclic.{IsAcyclic}
use Rattle.outcomes.specs.WaysUp.{WaysUp}
use Rattle.outcomes.specs.RootWalk.{RootWalk}

-- each node of a set is in R0, and came there in the last so many turns
abbrev pub AllReset : CableWorld → ℕ → ℕ → Type 0
AllReset w set turns =
    (k : ℕ) (x : PortNode) → Holds set k → slice_get w.nodes k ≡ Some x →
    (is_resetting x.state.view.phase ≡ true) × (x.state.view.timer ≤ turns)

-- whether a node waits in the reset that it is in, or else in the next
abbrev pub waits_due : View → Bool
waits_due v = if is_resetting v.phase then v.force else v.next_force

-- its gap count in the reset that it is in, or else in the next
abbrev pub gap_due : View → ℕ
gap_due v = if is_resetting v.phase then v.gap else v.next_gap

-- of a set of nodes this one waits, and no other does
pub record WaitsAlone (w : CableWorld) (set waiting : ℕ) : Type 0 where
  pub holds : Holds set waiting
  pub waits : AtView w waiting (λ v. waits_due v ≡ true)
  pub others : (k : ℕ) → Holds set k → k ≢ waiting → AtView w k (λ v. waits_due v ≡ false)

-- of a set of nodes, none of which is in R0 or R1, this one has the ID, and no other does
pub record IsNamedAlone (w : CableWorld) (set node id : ℕ) : Type 0 where
  pub holds : Holds set node
  pub calm : (k : ℕ) → Holds set k → AtView w k (λ v. is_in_bus_reset v.phase ≡ false)
  pub named : AtView w node (λ v. v.id ≡ Some id)
  pub others : (k : ℕ) → Holds set k → k ≢ node → AtView w k (λ v. v.id ≢ Some id)

-- a root, and the others that know their tree and have a parent port
pub record IsRooted (w : CableWorld) (set root : ℕ) : Type 0 where
  pub is_root : IsRoot w root
  pub late :
      (k : ℕ) (x : PortNode) → Holds set k → slice_get w.nodes k ≡ Some x →
      is_before_tree x.state.view.phase ≡ false
  pub parents :
      (k : ℕ) (x : PortNode) → Holds set k → k ≢ root → slice_get w.nodes k ≡ Some x →
      IsSome x.state.view.parent

-- ---- laws

-- after (n - 1) d turns all nodes of a component that has just been reset are in R0, and nobody
-- leaves it before 64 d turns are done
abbrev pub ResetsSpread : Type 0
ResetsSpread =
    (holds : HoldSchedule) (w : CableWorld) (node : NodeNumber) (set : NodeSet) (i : ℕ) →
    IsLawful w →
    IsComponent w.cabling node set → IsFresh w set →
    (length w.nodes - 1) * w.delay ≤ i → i < 64 * w.delay → AllReset (quiet_after holds i w) set i

-- after n d turns each has what it takes over at its entry
abbrev pub EntriesTakeOver : Type 0
EntriesTakeOver =
    (holds : HoldSchedule) (w : CableWorld) (node : NodeNumber) (set : NodeSet) (i : ℕ)
    (k : NodeNumber) (x y : PortNode) → IsLawful w → IsComponent w.cabling node set →
    IsFresh w set →
    length w.nodes * w.delay ≤ i → Holds set k →
    slice_get w.nodes k ≡ Some x → slice_get (quiet_after holds i w).nodes k ≡ Some y →
    (y.state.view.force ≡ waits_due x.state.view) × (y.state.view.gap ≡ gap_due x.state.view)

-- the node of this number is given time enough to become root
abbrev pub CanBeForcedAt : CableWorld → NodeNumber → Type 0
CanBeForcedAt w node =
    (x : PortNode) → slice_get w.nodes node ≡ Some x →
    CanBeForced (seen_turns w) w.longest x.state.timing

-- in a component without loop, which has just been reset, this node alone waits to become root, and
-- is given time enough for it
pub record IsForced (w : CableWorld) (node : NodeNumber) (set : NodeSet) (root : NodeNumber)
    : Type 0 where
  pub lawful : IsLawful w
  pub component : IsComponent w.cabling node set
  pub no_loop : HasNoLoop w set
  pub fresh : IsFresh w set
  pub alone : WaitsAlone w set root
  pub enough : CanBeForcedAt w root

-- By so many turns it is the root: a reset goes round, every node holds, and roles are taken.
abbrev pub forced_turns : CableWorld → ℕ
forced_turns w = turns_to_done w + length w.nodes * seen_turns w

abbrev pub ForcedNodesBecomeRoots : Type 0
ForcedNodesBecomeRoots =
    (holds : HoldSchedule) (w : CableWorld) (node : NodeNumber) (set : NodeSet)
    (root : NodeNumber) (k : ℕ) →
    IsForced w node set root → forced_turns w ≤ k → IsRooted (quiet_after holds k w) set root

abbrev pub ForcedRootsHaveWalks : Type 0
ForcedRootsHaveWalks =
    (holds : HoldSchedule) (w : CableWorld) (node : NodeNumber) (set : NodeSet)
    (root : NodeNumber) (k : ℕ) →
    IsForced w node set root → IsAcyclic w → forced_turns w ≤ k →
    (t : Tree) × RootWalk (quiet_after holds k w) set root t

-- from n d turns on each node past T0 has its port towards that node for parent port
abbrev pub AllLeadToForcedRoots : Type 0
AllLeadToForcedRoots =
    (holds : HoldSchedule) (w : CableWorld) (node : NodeNumber) (set : NodeSet)
    (root : NodeNumber) →
    IsForced w node set root →
    (up : ℕ → Option ℕ) × WaysUp w.cabling set root up
    × ((i : ℕ) (k : NodeNumber) (x : PortNode) → length w.nodes * w.delay ≤ i → Holds set k →
    slice_get (quiet_after holds i w).nodes k ≡ Some x → is_before_tree x.state.view.phase ≡ false →
    x.state.view.parent ≡ up k)

-- and nobody draws a coin
abbrev pub NobodyDraws : Type 0
NobodyDraws =
    (holds : HoldSchedule) (w : CableWorld) (node : NodeNumber) (set : NodeSet)
    (root : NodeNumber) (i : ℕ) (k : NodeNumber) (x y : PortNode) → IsForced w node set root →
    length w.nodes * w.delay ≤ i → Holds set k →
    slice_get (quiet_after holds i w).nodes k ≡ Some x →
    slice_get (quiet_after holds (i + 1) w).nodes k ≡ Some y →
    y.state.view.draws ≡ x.state.view.draws

-- a configuration packet is sent in a component of which no node is in R0 or R1
pub record SendsPacket
    (w v : CableWorld) (from : NodeNumber) (id : ℕ) (force : Bool) (gap : Option ℕ) (set : NodeSet)
    : Type 0 where
  pub act : ActLeads (Config from id force gap) w v
  pub component : IsComponent w.cabling from set
  pub calm : (k : ℕ) → Holds set k → AtView w k (λ v. is_in_bus_reset v.phase ≡ false)

-- a configuration packet with R set names one node of a component that isn't being reset
pub record NamesRoot
    (w v : CableWorld) (from : NodeNumber) (id : ℕ) (gap : Option ℕ) (set : NodeSet)
    (root : NodeNumber)
    : Type 0 where
  pub act : ActLeads (Config from id true gap) w v
  pub component : IsComponent w.cabling from set
  pub named : IsNamedAlone w set root id

abbrev pub ConfigsBeginAnew : Type 0
ConfigsBeginAnew =
    (w v : CableWorld) (from : NodeNumber) (id : ℕ) (gap : Option ℕ) (set : NodeSet)
    (root : NodeNumber) →
    NamesRoot w v from id gap set root → IsFresh v set

abbrev pub ConfigsNameRoots : Type 0
ConfigsNameRoots =
    (w v : CableWorld) (from : NodeNumber) (id : ℕ) (gap : Option ℕ) (set : NodeSet)
    (root : NodeNumber) →
    NamesRoot w v from id gap set root → WaitsAlone v set root

abbrev pub ConfigsGiveGaps : Type 0
ConfigsGiveGaps =
    (w v : CableWorld) (from : NodeNumber) (id : ℕ) (gap : Option ℕ) (set : NodeSet)
    (root k : NodeNumber) (x y : PortNode) → NamesRoot w v from id gap set root →
    Holds set k → slice_get w.nodes k ≡ Some x → slice_get v.nodes k ≡ Some y →
    gap_due y.state.view ≡ gap_or gap x.state.view.next_gap
