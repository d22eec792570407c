-- The milestones of a bus that settles: what holds of its world, one after the other, in quiet
-- turns.
use Rattle.std.specs.Prelude.{◌≡◌, ◌⊎◌, ℕ, Bool, true, false, Some, slice_get}
use Rattle.cabling.specs.declared.cable.End.{End}
use Rattle.cabling.specs.Wiring.{far}
use Rattle.cabling.specs.NodeSet.{Holds, IsEmpty}
use Rattle.cabling.specs.Component.{IsComponent}
use Rattle.cabling.specs.Looped.{IsCore}
use Rattle.port_state.specs.declared.signal.Phase.{Phase}
use Rattle.port_state.specs.declared.signal.Phase.TheVariants.{TreeStart}
use Rattle.port_state.specs.Heard.{is_resetting, hears_packets}
use Rattle.port_state.specs.Machine.{PortNode}
use Rattle.cable_world.specs.World.{CableWorld, NodeNumber, NodeSet, wire_of}
use Rattle.cable_world.specs.Phases.{is_before_tree, is_in_bus_reset}
use Rattle.cable_world.specs.Signals.{signals_of, has_reset}
use Rattle.cable_world.specs.Outcome.{IsContention, AtView}

-- ---- resets

-- resets are over: a Reset is under way to a node in R0 alone
abbrev pub ResetsAreOver : CableWorld → Type 0
ResetsAreOver w =
    (a b : End) (y : PortNode) → far w.cabling a ≡ Some b → slice_get w.nodes b.node ≡ Some y →
    has_reset (signals_of (wire_of w a).signals) ≡ true → is_resetting y.state.view.phase ≡ true

-- in a set of nodes they are
abbrev pub ResetsAreOverIn : CableWorld → NodeSet → Type 0
ResetsAreOverIn w set =
    (a b : End) (y : PortNode) → Holds set b.node → far w.cabling a ≡ Some b →
    slice_get w.nodes b.node ≡ Some y → has_reset (signals_of (wire_of w a).signals) ≡ true →
    is_resetting y.state.view.phase ≡ true

-- no node is in a phase that passes this test
abbrev pub NoneIn : (Phase → Bool) → CableWorld → Type 0
NoneIn test w =
    (k : NodeNumber) (x : PortNode) → slice_get w.nodes k ≡ Some x →
    test x.state.view.phase ≡ false

-- resets are done: no node is in R0 or R1
abbrev pub ResetsAreDone : CableWorld → Type 0
ResetsAreDone = NoneIn is_in_bus_reset

-- no Reset is under way to anyone
abbrev pub NoResetIsUnderWay : CableWorld → Type 0
NoResetIsUnderWay w =
    (a b : End) → far w.cabling a ≡ Some b → has_reset (signals_of (wire_of w a).signals) ≡ false

-- ---- components without loop

-- this holds of each component of which no cables form a loop
abbrev pub OfTrees : CableWorld → (NodeSet → Type 0) → Type 0
OfTrees w P =
    (node : NodeNumber) (set core : NodeSet) →
    IsComponent w.cabling node set → IsCore w.cabling set core → IsEmpty core → P set

-- each node of a set took its roles: it is in a phase after T0
abbrev pub KnowTheirTree : CableWorld → NodeSet → Type 0
KnowTheirTree w set =
    (k : NodeNumber) (x : PortNode) → Holds set k → slice_get w.nodes k ≡ Some x →
    is_before_tree x.state.view.phase ≡ false

-- trees are taken: so do the nodes of every component without loop
abbrev pub TreesAreTaken : CableWorld → Type 0
TreesAreTaken w = OfTrees w (KnowTheirTree w)

-- each node of a set identifies itself, or did: tree identify is over
abbrev pub AreIdentifying : CableWorld → NodeSet → Type 0
AreIdentifying w set =
    (k : NodeNumber) (x : PortNode) → Holds set k → slice_get w.nodes k ≡ Some x →
    hears_packets x.state.view.phase ≡ true

-- two nodes of a set contend, with 32 equal draws
pub record HasContention (w : CableWorld) (set : NodeSet) : Type 0 where
  pub low : ℕ
  pub high : ℕ
  pub is : IsContention w set low high

abbrev pub IdentifyOrContend : CableWorld → NodeSet → Type 0
IdentifyOrContend w set = AreIdentifying w set ⊎ HasContention w set

-- trees are decided: every component without loop does one or the other
abbrev pub TreesAreDecided : CableWorld → Type 0
TreesAreDecided w = OfTrees w (IdentifyOrContend w)

-- ---- loops

-- every node of a loop reports that the configuration timed out
abbrev pub LoopsAreReported : CableWorld → Type 0
LoopsAreReported w =
    (set core : NodeSet) (k : NodeNumber) → IsCore w.cabling set core → Holds core k →
    AtView w k (λ v. (v.phase ≡ TreeStart) × (v.timed_out ≡ true))
