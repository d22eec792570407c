-- Where self identify goes on in a component.
use Rattle.std.specs.Prelude.{◌≡◌, ℕ, ◌+◌, ◌≤◌, Bool, true, false, not, ◌&&◌, List, [], ◌∷◌, Some, slice_get, if◌then◌else◌}
use Rattle.cabling.specs.declared.cable.End.{End}
use Rattle.cabling.specs.NodeSet.{Holds}
use Rattle.port_state.specs.declared.signal.Phase.TheVariants.{SelfIdent}
use Rattle.port_state.specs.declared.signal.Signal.{Signal}
use Rattle.port_state.specs.Machine.{PortNode}
use Rattle.cable_world.specs.World.{CableWorld, wire_of, NodeNumber, NodeSet}
use Rattle.cable_world.specs.Signals.{signals_of}
use Rattle.outcomes.specs.NodeMarks.{is_asked, is_named, is_ready}
use Rattle.outcomes.specs.Messages.{is_grant, is_done, has_grant, has_done}
use Rattle.cabling.specs.Component.{IsComponent}
use Rattle.cable_world.specs.Run.{ComesOfPowerOn}
use Rattle.convergence.specs.Milestones.{AreIdentifying}

pub data Holder : Type 0 where
  -- a Grant is under way from this end
  grant : End → Holder
  -- Done is under way from this end
  done : End → Holder
  -- this node is granted, in self identify, and waits for no child that it asked
  node : ℕ → Holder

pub record HasTurn (w : CableWorld) (k : ℕ) : Type 0 where
  pub is : PortNode
  pub at : slice_get w.nodes k ≡ Some is
  pub identifies : is.state.view.phase ≡ SelfIdent
  pub granted : is.state.view.granted ≡ true
  pub awaits_none : (p : ℕ) → (is_asked is.state p && not (is_named is.state p)) ≡ false

abbrev pub IsHolder : CableWorld → Holder → Type 0
IsHolder w (grant a) = has_grant (signals_of (wire_of w a).signals) ≡ true
IsHolder w (done a) = has_done (signals_of (wire_of w a).signals) ≡ true
IsHolder w (node k) = HasTurn w k

-- the node at which it is, or from which it comes
abbrev pub place : Holder → ℕ
place (grant a) = a.node
place (done a) = a.node
place (node k) = k

abbrev pub how_many : (Signal → Bool) → List Signal → ℕ
how_many test [] = 0
how_many test (s ∷ ss) = if test s then how_many test ss + 1 else how_many test ss

-- in this set exactly one of the three is there, and once
pub record HasOneHolder (w : CableWorld) (set : ℕ) : Type 0 where
  pub holder : Holder
  pub inside : Holds set (place holder)
  pub is : IsHolder w holder
  pub only : (h : Holder) → Holds set (place h) → IsHolder w h → h ≡ holder
  pub one_grant :
      (a : End) → Holds set a.node → how_many is_grant (signals_of (wire_of w a).signals) ≤ 1
  pub one_done :
      (a : End) → Holds set a.node → how_many is_done (signals_of (wire_of w a).signals) ≤ 1

-- so it is in a component all of whose nodes are in self identify or A0, and one isn't in A0
abbrev pub SelfIdentifyGoesOn : Type 0
SelfIdentifyGoesOn =
    (w : CableWorld) (node : NodeNumber) (set : NodeSet) (late : NodeNumber) (u : PortNode) →
    ComesOfPowerOn w → IsComponent w.cabling node set → AreIdentifying w set →
    Holds set late → slice_get w.nodes late ≡ Some u → is_ready u.state.view.phase ≡ false →
    HasOneHolder w set
