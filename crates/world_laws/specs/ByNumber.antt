-- What an act makes of each node, of each wire and of the cables, by number.
use Rattle.std.specs.Prelude.{◌≡◌, ◌≢◌, [], ◌∷◌, Some, slice_get}
use Rattle.cabling.specs.declared.cable.End.{End}
use Rattle.cabling.specs.Wiring.{far, ports_of}
use Rattle.cabling.specs.NodeSet.{Holds}
use Rattle.cabling.specs.Component.{IsComponent}
use Rattle.cabling.specs.Change.{Added, TakenOut}
use Rattle.port_state.specs.declared.signal.Signal.TheVariants as signal
use Rattle.port_state.specs.Config.{config_packet}
use Rattle.port_state.specs.Machine.{PortNode, NodeStep, node_disturb, node_plugged, node_pulled, node_set_config}
use Rattle.cable_world.specs.declared.act.Act.{Act}
use Rattle.cable_world.specs.declared.act.Act.TheVariants.{Plug, Pull, Reset, Config}
use Rattle.cable_world.specs.Wire.{add_signals}
use Rattle.cable_world.specs.World.{CableWorld, NodeNumber, NodeSet, wire_of}
use Rattle.cable_world.specs.Act.{Acted}
use Rattle.cable_world.specs.Lawful.{IsLawful}

-- ---- one node

-- a node does this step, and resets the bus: on each of its cables a Reset is sent, behind what is
-- under way
pub record BeginsReset
    (w v : CableWorld) (k : NodeNumber) (step : PortNode → NodeStep)
    : Type 0 where
  pub node :
      (x : PortNode) → slice_get w.nodes k ≡ Some x → slice_get v.nodes k ≡ Some (step x).node
  pub wires :
      (a b : End) → a.node ≡ k → far v.cabling a ≡ Some b →
      wire_of v a ≡ add_signals (signal.Reset ∷ []) (wire_of w a)

-- the wires that leave a node are as they were
abbrev pub WiresStand : CableWorld → CableWorld → NodeNumber → Type 0
WiresStand w v k = (a : End) → a.node ≡ k → wire_of v a ≡ wire_of w a

-- a node is as it was, and so are its cables and its wires
pub record NodeStands (w v : CableWorld) (k : NodeNumber) : Type 0 where
  pub node : slice_get v.nodes k ≡ slice_get w.nodes k
  pub ports : ports_of v.cabling k ≡ ports_of w.cabling k
  pub wires : WiresStand w v k
  pub changed : slice_get v.changed k ≡ slice_get w.changed k

-- ---- each act

-- a cable is there more: both its nodes reset the bus
pub record Plugs (w v : CableWorld) (a b : End) : Type 0 where
  pub cables : Added w.cabling v.cabling a b
  pub node_a : BeginsReset w v a.node (node_plugged a.port)
  pub node_b : BeginsReset w v b.node (node_plugged b.port)
  pub others : (k : NodeNumber) → k ≢ a.node → k ≢ b.node → NodeStands w v k

-- a cable is gone: both its nodes reset the bus
pub record Pulls (w v : CableWorld) (a b : End) : Type 0 where
  pub cables : TakenOut w.cabling v.cabling a b
  pub node_a : BeginsReset w v a.node (node_pulled a.port)
  pub node_b : BeginsReset w v b.node (node_pulled b.port)
  pub others : (k : NodeNumber) → k ≢ a.node → k ≢ b.node → NodeStands w v k

pub record Resets (w v : CableWorld) (node : NodeNumber) : Type 0 where
  pub cables : v.cabling ≡ w.cabling
  pub resets : BeginsReset w v node node_disturb
  pub others : (k : NodeNumber) → k ≢ node → NodeStands w v k

-- the nodes of a component hear the packet, and one of them resets the bus
pub record Configures
    (w v : CableWorld) (from : NodeNumber) (heard : PortNode → PortNode) (set : NodeSet)
    : Type 0 where
  pub component : IsComponent w.cabling from set
  pub cables : v.cabling ≡ w.cabling
  pub resets : BeginsReset w v from (λ x. node_disturb (heard x))
  pub hear :
      (k : NodeNumber) (x : PortNode) → Holds set k → k ≢ from → slice_get w.nodes k ≡ Some x →
      (slice_get v.nodes k ≡ Some (heard x)) × WiresStand w v k
  pub others : (k : NodeNumber) → (Holds set k → ⊥) → NodeStands w v k

abbrev pub Changes : Act → CableWorld → CableWorld → Type 0
Changes (Plug a b) w v = Plugs w v a b
Changes (Pull a) w v = (b : End) × Pulls w v a b
Changes (Reset node) w v = Resets w v node
Changes (Config from root_id force gap) w v =
    (set : NodeSet) × Configures w v from (node_set_config (config_packet root_id force gap)) set

-- ---- laws

-- this follows of an act on a lawful world that isn't refused
abbrev pub InActs : (Act → CableWorld → CableWorld → Type 0) → Type 0
InActs P =
    (a : Act) (w v : CableWorld) → Acted a w v → IsLawful w → P a w v

abbrev pub ActsByNumber : Type 0
ActsByNumber = InActs Changes
