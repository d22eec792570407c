-- Nodes that drew coins, and pairs of them.
use Rattle.std.specs.Prelude.{◌≡◌, ◌≢◌, ℕ, ◌+◌, ◌≤◌, true, false, None, Some, slice_get}
use Rattle.cabling.specs.declared.cable.End.{End}
use Rattle.cabling.specs.NodeSet.{Holds}
use Rattle.cabling.specs.Component.{IsComponent}
use Rattle.port_state.specs.declared.signal.Phase.TheVariants.{Contend}
use Rattle.port_state.specs.declared.states.NodeState.{NodeState}
use Rattle.port_state.specs.Ports.{is_port}
use Rattle.port_state.specs.Machine.{PortNode}
use Rattle.cable_world.specs.World.{CableWorld, NodeNumber, NodeSet}
use Rattle.cable_world.specs.Quiet.{HoldSchedule, quiet_after}
use Rattle.cable_world.specs.Agreement.{leads_down}
use Rattle.cable_world.specs.Run.{ComesOfPowerOn}
use Rattle.convergence.specs.Cables.{AreJoined}
use Rattle.convergence.specs.Coins.{last_coin, DrawsAgree}
use Rattle.convergence.specs.Turns.{turns_to_over}

-- node number k drew a coin since its last reset
pub record HasDrawn (w : CableWorld) (k : ℕ) : Type 0 where
  pub node : PortNode
  pub at : slice_get w.nodes k ≡ Some node
  pub some : 1 ≤ node.state.view.draws

-- each is the other's parent
pub record AreMutual (w : CableWorld) (a b : End) : Type 0 where
  pub ends : AreJoined w a b
  pub here : is_port ends.near.state.view.parent a.port ≡ true
  pub there : is_port ends.other.state.view.parent b.port ≡ true

-- two nodes are the ends of a cable, and drew the same coins up to the last ones
pub record DrewOnCable (w : CableWorld) (j k : ℕ) : Type 0 where
  pub from : End
  pub to : End
  pub from_is : from.node ≡ j
  pub to_is : to.node ≡ k
  pub ends : AreJoined w from to
  pub agree : DrawsAgree ends.near.state ends.other.state

-- the node at the one end has the other end for a child, and no parent
pub record HasWonAt (w : CableWorld) (a b : End) : Type 0 where
  pub ends : AreJoined w a b
  pub child : leads_down ends.near.state.view.ports a.port ≡ true
  pub root : ends.near.state.view.parent ≡ None

-- two nodes in T3, the first with coin 1 and the second with coin 0
pub record AreUnequal (w : CableWorld) (j k : ℕ) : Type 0 where
  pub near : PortNode
  pub near_at : slice_get w.nodes j ≡ Some near
  pub other : PortNode
  pub other_at : slice_get w.nodes k ≡ Some other
  pub here : near.state.view.phase ≡ Contend
  pub there : other.state.view.phase ≡ Contend
  pub long : last_coin near.state ≡ true
  pub short : last_coin other.state ≡ false

-- ---- what is so of them

-- counts of draws differ by one at most
abbrev pub CountsAreClose : NodeState → NodeState → Type 0
CountsAreClose x y = (x.view.draws ≤ y.view.draws + 1) × (y.view.draws ≤ x.view.draws + 1)

-- so do those of two nodes, each of which is the other's parent
abbrev pub RivalsAreClose : CableWorld → Type 0
RivalsAreClose w =
    (a b : End) (m : AreMutual w a b) → CountsAreClose m.ends.near.state m.ends.other.state

abbrev pub RivalsAgree : CableWorld → Type 0
RivalsAgree w = (a b : End) (m : AreMutual w a b) → DrawsAgree m.ends.near.state m.ends.other.state

-- two nodes of a component that drew coins are the ends of one cable
abbrev pub DrawersShareACable : CableWorld → Type 0
DrawersShareACable w =
    (node : NodeNumber) (set : NodeSet) (j k : NodeNumber) → IsComponent w.cabling node set →
    Holds set j → Holds set k → j ≢ k → HasDrawn w j → HasDrawn w k → DrewOnCable w j k

-- and no third node of it drew
abbrev pub NoThirdDraws : CableWorld → Type 0
NoThirdDraws w =
    (node : NodeNumber) (set : NodeSet) (i j k : NodeNumber) → IsComponent w.cabling node set →
    Holds set i → Holds set j → Holds set k → i ≢ j → i ≢ k → j ≢ k →
    HasDrawn w i → HasDrawn w j → HasDrawn w k → ⊥

-- all four at once
pub record FewDraw (w : CableWorld) : Type 0 where
  pub close : RivalsAreClose w
  pub agree : RivalsAgree w
  pub two : DrawersShareACable w
  pub no_third : NoThirdDraws w

-- the first of two nodes has the second as its child, and no parent
abbrev pub WinsOver : CableWorld → NodeNumber → NodeNumber → Type 0
WinsOver w m n = (a : End) × (b : End) × (a.node ≡ m) × (b.node ≡ n) × HasWonAt w a b

-- After resets are over, where two nodes of a component are in T3 with last coins 1 and 0, the
-- first has won once the longest wait is over, and at each turn from there.
abbrev pub LongWaitsWin : Type 0
LongWaitsWin =
    (holds : HoldSchedule) (w : CableWorld) (k : ℕ) (node : NodeNumber) (set : NodeSet)
    (m n : NodeNumber) (i : ℕ) → ComesOfPowerOn w → turns_to_over w ≤ k →
    IsComponent (quiet_after holds k w).cabling node set → Holds set m → Holds set n → m ≢ n →
    AreUnequal (quiet_after holds k w) m n → w.longest.long ≤ i →
    WinsOver (quiet_after holds (k + i) w) m n
