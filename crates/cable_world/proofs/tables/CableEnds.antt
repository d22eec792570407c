-- An end of a cable: its node, its port and its wire are there.
use Rattle.std.proofs.Common.{◌≡◌, inl, inr, true, false, Option, Some, None, is_some, slice_get, refl, sym, ◌∙◌, ap, arith}
use Rattle.std.proofs.lemmas.Option.{slice_get_cases}
use Rattle.cabling.specs.declared.cable.End.{End}
use Rattle.cabling.specs.Wiring.{HasEnd, far}
use Rattle.cabling.proofs.Lemmas.{plugged as has-end}
use Rattle.port_state.specs.declared.ports.PortView.{PortView}
use Rattle.port_state.specs.declared.states.NodeState.{NodeState}
use Rattle.port_state.specs.Ports.{PortNumber, passes, is_connected}
use Rattle.port_state.specs.Machine.{PortNode}
use Rattle.cable_world.specs.World.{CableWorld}
use Rattle.cable_world.specs.Lawful.{IsWellFormed}
use Rattle.cable_world.proofs.tables.TablesInSteps.{HasEntry}
use Rattle.cable_world.proofs.tables.TablesInActs.{has-wire}

pub record CableEnd (w : CableWorld) (e : End) : Type 0 where
  pub node : PortNode
  pub node_at : slice_get w.nodes e.node ≡ Some node
  pub port : PortView
  pub port_at : slice_get node.state.view.ports e.port ≡ Some port
  pub connected : is_connected node.state.view.ports e.port ≡ true
  pub wire : HasEntry w.wires e

-- a port that is connected is there
pub port-there :
    (x : NodeState) (k : PortNumber) → is_connected x.view.ports k ≡ true →
    (p : PortView) × (slice_get x.view.ports k ≡ Some p)
port-there x k h = go (slice_get x.view.ports k) refl
  where
    go :
        (o : Option PortView) → slice_get x.view.ports k ≡ o →
        (p : PortView) × (slice_get x.view.ports k ≡ Some p)
    go None e = let none : false ≡ true = sym (ap (passes (λ p. p.connected)) e) ∙ h in absurd cc
    go (Some p) e = (p, e)

-- the port of a cable is connected
pub cable-connected :
    (w : CableWorld) (a b : End) (x : PortNode) → IsWellFormed w → far w.cabling a ≡ Some b →
    slice_get w.nodes a.node ≡ Some x → is_connected x.state.view.ports a.port ≡ true
cable-connected w a b x f e at = (f.nodes a.node x at).connected a.port ∙ ap is_some e

pub cable-end :
    (w : CableWorld) (a b : End) → IsWellFormed w → far w.cabling a ≡ Some b → CableEnd w a
cable-end w a b f e =
    let has : HasEnd w.cabling a = has-end w.cabling a b e in
    elim (slice_get_cases w.nodes a.node).1 [
      | inl at ↦
          let on = cable-connected w a b at.0 f e at.2 in
          let p = port-there at.0.state a.port on in
          record {
            node = at.0;
            node_at = at.2;
            port = p.0;
            port_at = p.1;
            connected = on;
            wire = has-wire w a f has;
          }
      | inr past ↦ absurd (omega (arith, past.0, has.node, f.count))
    ]
