-- Nodes, ports and turns that are gone through by number, and texts of several parts.
use Rattle.std.proofs.Common.{◌≡◌, ◌++◌, ◌+◌, ◌<◌, ◌≤◌, ℕ, Bool, List, [], ◌∷◌, length, drop, Some, refl, sym, ◌∙◌, ap, append_assoc}
use Rattle.std.specs.Prelude.{slice_get}
use Rattle.port_state.specs.declared.ports.PortView.{PortView}
use Rattle.port_state.specs.Clock.{is_even}
use Rattle.port_state.specs.Machine.{PortNode}
use Rattle.cable_world.proofs.Lemmas.{some-same}
use Rattle.cable_world.specs.World.{CableWorld}
use Rattle.script_text.specs.ReportText.{Names}
use Rattle.script_trace.specs.Event.{Seen}
use Rattle.script_trace.proofs.Walked.{left-from, one-more, past-end, some-left}
use Rattle.script_trace.specs.waves.Moment.{all_changes}
use Rattle.script_trace.specs.waves.Head.{port_variables, port_values, all_port_variables, all_port_values, node_scope, node_values, all_scopes, all_values}

-- ---- nodes

no-node : (w : CableWorld) (k : ℕ) (seen : List Seen) → all_changes w k seen [] ≡ []
no-node w k [] = refl
no-node w k (s ∷ seen) = refl

-- nothing is left behind the last node
pub none-left :
    (w : CableWorld) (k : ℕ) (seen : List Seen) (nodes : List PortNode) → length nodes ≤ k →
    all_changes w k (drop k seen) (drop k nodes) ≡ []
none-left w k seen nodes h = ap (all_changes w k (drop k seen)) (past-end nodes k h) ∙ no-node w k (drop k seen)

-- ---- the head

-- a part, and then the rest
pub then-more :
    (out first rest mid new : List ℕ) → mid ≡ out ++ first → new ≡ mid ++ rest →
    new ≡ out ++ (first ++ rest)
then-more out first rest mid new one more =
    more ∙ ap (λ (l : List ℕ). l ++ rest) one ∙ append_assoc out first rest

pub next-variables :
    (node k : ℕ) (ports : List PortView) (before after all : List ℕ) → k < length ports →
    after ≡ before ++ port_variables node k → before ++ all_port_variables node k (drop k ports) ≡ all →
    after ++ all_port_variables node (k + 1) (drop (k + 1) ports) ≡ all
next-variables node k ports before after all h new so =
    one-more before after (port_variables node k) (all_port_variables node (k + 1) (drop (k + 1) ports))
    (all_port_variables node k (drop k ports)) all new (ap (all_port_variables node k) (some-left ports k h).1) so

pub next-port-values :
    (node k : ℕ) (ports : List PortView) (before after all : List ℕ) → k < length ports →
    after ≡ before ++ port_values node k → before ++ all_port_values node k (drop k ports) ≡ all →
    after ++ all_port_values node (k + 1) (drop (k + 1) ports) ≡ all
next-port-values node k ports before after all h new so =
    one-more before after (port_values node k) (all_port_values node (k + 1) (drop (k + 1) ports))
    (all_port_values node k (drop k ports)) all new (ap (all_port_values node k) (some-left ports k h).1) so

pub next-scope :
    (names : Names) (k : ℕ) (x : PortNode) (steady : Bool) (ports : List PortView) (nodes : List PortNode)
    (before after all : List ℕ) → slice_get nodes k ≡ Some x → steady ≡ is_even x.clock → ports ≡ x.state.view.ports →
    after ≡ before ++ node_scope names k steady ports → before ++ all_scopes names k (drop k nodes) ≡ all →
    after ++ all_scopes names (k + 1) (drop (k + 1) nodes) ≡ all
next-scope names k x steady ports nodes before after all at so is new told =
    let rest = all_scopes names (k + 1) (drop (k + 1) nodes) in
    one-more before after (node_scope names k steady ports) rest (all_scopes names k (drop k nodes)) all new
    (ap (all_scopes names k) (left-from nodes k x at)
    ∙ ap (λ (l : List PortView). node_scope names k (is_even x.clock) l ++ rest) (sym is)
    ∙ ap (λ (b : Bool). node_scope names k b ports ++ rest) (sym so))
    told

-- whichever call told of the node
pub steady-of :
    (nodes : List PortNode) (k : ℕ) (x y : PortNode) (steady : Bool) → slice_get nodes k ≡ Some x → slice_get nodes k ≡ Some y →
    steady ≡ is_even y.clock → steady ≡ is_even x.clock
steady-of nodes k x y steady at also is =
    is ∙ ap (λ (z : PortNode). is_even z.clock) (some-same y x (sym also ∙ at))

pub next-values :
    (k : ℕ) (x : PortNode) (ports : List PortView) (nodes : List PortNode)
    (before after all : List ℕ) → slice_get nodes k ≡ Some x → ports ≡ x.state.view.ports →
    after ≡ before ++ node_values k ports → before ++ all_values k (drop k nodes) ≡ all →
    after ++ all_values (k + 1) (drop (k + 1) nodes) ≡ all
next-values k x ports nodes before after all at is new so =
    let rest = all_values (k + 1) (drop (k + 1) nodes) in
    one-more before after (node_values k ports) rest (all_values k (drop k nodes)) all new
    (ap (all_values k) (left-from nodes k x at)
    ∙ ap (λ (l : List PortView). node_values k l ++ rest) (sym is))
    so

pub no-scope : (names : Names) (k : ℕ) (nodes : List PortNode) → length nodes ≤ k →
    all_scopes names k (drop k nodes) ≡ []
no-scope names k nodes h = ap (all_scopes names k) (past-end nodes k h)

pub no-values : (k : ℕ) (nodes : List PortNode) → length nodes ≤ k →
    all_values k (drop k nodes) ≡ []
no-values k nodes h = ap (all_values k) (past-end nodes k h)
