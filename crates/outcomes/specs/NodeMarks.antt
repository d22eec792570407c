-- What a record tells of the identification of its node: ID, grant, list, and the marks of its
-- ports.
use Rattle.std.specs.Prelude.{◌≡◌, ℕ, ◌<◌, Bool, true, false, [], None, is_some, Some, slice_get}
use Rattle.port_state.specs.declared.signal.Phase.{Phase}
use Rattle.port_state.specs.declared.signal.Phase.TheVariants.{Ready}
use Rattle.port_state.specs.declared.states.NodeState.{NodeState}
use Rattle.port_state.specs.Ports.{port_is, PortNumber}
use Rattle.port_state.specs.Heard.{hears_packets}
use Rattle.cable_world.specs.Agreement.{leads_down}
use Rattle.cable_world.specs.World.{CableWorld, NodeNumber}
use Rattle.port_state.specs.Machine.{PortNode}
use Rattle.cable_world.specs.Run.{ComesOfPowerOn}

-- A0
abbrev pub is_ready : Phase → Bool
is_ready Ready = true
is_ready phase = false

-- a port whose child was asked to identify itself, and one whose child has
abbrev pub is_asked : NodeState → ℕ → Bool
is_asked x k = port_is (λ p. p.asked) x.view.ports k

abbrev pub is_named : NodeState → ℕ → Bool
is_named x k = port_is (λ p. p.named) x.view.ports k

pub record IsMarked (x : NodeState) : Type 0 where
  -- a node has an ID in A0 alone, and is granted in self identify and A0 alone
  pub id : is_some x.view.id ≡ is_ready x.view.phase
  pub granted : x.view.granted ≡ true → hears_packets x.view.phase ≡ true
  -- in A0 it is granted, and all its children are named
  pub ready : is_ready x.view.phase ≡ true → x.view.granted ≡ true
  pub all_named :
      is_ready x.view.phase ≡ true → (k : ℕ) → leads_down x.view.ports k ≡ true →
      is_named x k ≡ true
  -- the root needs no grant
  pub root : hears_packets x.view.phase ≡ true → x.view.parent ≡ None → x.view.granted ≡ true
  pub unheard : hears_packets x.view.phase ≡ false → x.list.items ≡ []
  -- a named child was asked, and a granted node alone asks its children
  pub named : (k : ℕ) → is_named x k ≡ true → is_asked x k ≡ true
  pub asked : (k : ℕ) → is_asked x k ≡ true → leads_down x.view.ports k ≡ true
  pub asks : (k : ℕ) → is_asked x k ≡ true → x.view.granted ≡ true
  -- it asks them in rising port order, each once the one before is named
  pub order :
      (j k : ℕ) → j < k → is_asked x k ≡ true → leads_down x.view.ports j ≡ true →
      is_named x j ≡ true

-- ---- laws

-- each record of a reached world is so
abbrev pub RecordsAreMarked : Type 0
RecordsAreMarked =
    (w : CableWorld) (k : NodeNumber) (x : PortNode) → ComesOfPowerOn w →
    slice_get w.nodes k ≡ Some x → IsMarked x.state

-- a node awaits one child at most
abbrev pub NodesAwaitOneChild : Type 0
NodesAwaitOneChild =
    (w : CableWorld) (k : NodeNumber) (p q : PortNumber) (x : PortNode) → ComesOfPowerOn w →
    slice_get w.nodes k ≡ Some x →
    is_asked x.state p ≡ true → is_named x.state p ≡ false →
    is_asked x.state q ≡ true → is_named x.state q ≡ false → p ≡ q
