-- Which records a machine may have.
use Rattle.std.specs.Prelude.{◌≡◌, ◌≤◌, ◌<◌, true, false, not, List, length, Option, Some, None, slice_get, IsSome}
use Rattle.std.specs.Option.{ForSome}
use Rattle.self_id.specs.Node.{FitBits}
use Rattle.port_state.specs.declared.signal.Phase.{Phase}
use Rattle.port_state.specs.declared.signal.Phase.TheVariants.{ResetStart, ResetWait, TreeStart, ChildShake, ParentShake, Contend, SelfIdent, Ready}
use Rattle.port_state.specs.declared.ports.PortView.{PortView}
use Rattle.port_state.specs.declared.states.NodeState.{NodeState}
use Rattle.port_state.specs.Limits.{list_limit}
use Rattle.port_state.specs.Ports.{PortNumber, is_port}

-- numbers and lists are in range
pub record IsBounded (x : NodeState) : Type 0 where
  pub some_port : 1 ≤ x.ports
  pub few_ports : x.ports ≤ 16
  pub views : length x.view.ports ≡ x.ports
  pub attrs : FitBits x.attrs
  pub no_delay : x.attrs.delay ≡ 0
  pub gap : x.view.gap ≤ 63
  pub next_gap : x.view.next_gap ≤ 63
  pub parent : ForSome x.view.parent (λ p. p < x.ports)
  pub id : ForSome x.view.id (λ i. i ≤ 62)
  pub list : length x.list.items ≤ list_limit

-- a fact of every port and its number
abbrev pub EachPort : (PortNumber → PortView → Type 0) → List PortView → Type 0
EachPort P ports = (k : PortNumber) (p : PortView) → slice_get ports k ≡ Some p → P k p

-- before the tree is known no port leads to a child, and none to a parent
abbrev pub HasNoRoles : Option PortNumber → List PortView → Type 0
HasNoRoles parent ports = EachPort (λ k p. p.child ≡ false) ports × (parent ≡ None)

-- afterwards a connected port leads to a child or to the parent, and not to both; a free port leads
-- to neither
pub record FitsRole (parent : Option PortNumber) (k : PortNumber) (p : PortView) : Type 0 where
  pub one : p.connected ≡ true → is_port parent k ≡ not p.child
  pub none : p.connected ≡ false → (p.child ≡ false) × (is_port parent k ≡ false)

abbrev pub HasRoles : Option PortNumber → List PortView → Type 0
HasRoles parent ports = EachPort (λ k p. FitsRole parent k p) ports

-- the roles that fit a phase
abbrev pub FitsPhase : Phase → Option PortNumber → List PortView → Type 0
FitsPhase ResetStart parent ports = HasNoRoles parent ports
FitsPhase ResetWait parent ports = HasNoRoles parent ports
FitsPhase TreeStart parent ports = HasNoRoles parent ports
FitsPhase ChildShake parent ports = HasRoles parent ports
FitsPhase ParentShake parent ports = HasRoles parent ports
FitsPhase Contend parent ports = HasRoles parent ports × IsSome parent
FitsPhase SelfIdent parent ports = HasRoles parent ports
FitsPhase Ready parent ports = HasRoles parent ports

pub record IsValid (x : NodeState) : Type 0 where
  pub bounded : IsBounded x
  pub fits : FitsPhase x.view.phase x.view.parent x.view.ports
