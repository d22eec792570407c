-- A step of one node between two turns, by a name.
use Rattle.std.specs.Prelude.{◌≡◌, ℕ, ◌<◌, List, IsTrue, IsFalse}
use Rattle.cabling.specs.Wiring.{Wiring}
use Rattle.port_state.specs.declared.timing.Timing.{Timing}
use Rattle.port_state.specs.Ports.{is_connected}
use Rattle.port_state.specs.Machine.{PortNode, NodeStep, node_disturb, node_plugged, node_pulled}
use Rattle.cable_world.specs.declared.steps.NodeAct.{NodeAct}
use Rattle.cable_world.specs.declared.steps.NodeAct.TheVariants.{Disturb, Plug, Pull}
use Rattle.cable_world.specs.Wire.{Wire}
use Rattle.cable_world.specs.World.{CableWorld, NodeNumber}
use Rattle.cable_world.specs.Parts.{world_record}
use Rattle.cable_world.specs.Lawful.{IsLawful}
use Rattle.cable_world.specs.Act.{with_step, note_changes}

abbrev pub step_of : NodeAct → PortNode → NodeStep
step_of Disturb x = node_disturb x
step_of (Plug port) x = node_plugged port x
step_of (Pull port) x = node_pulled port x

-- what a step asks of the node
abbrev pub Suits : NodeAct → PortNode → Type 0
Suits Disturb x = Unit {0}
Suits (Plug port) x = (port < x.state.ports) × IsFalse (is_connected x.state.view.ports port)
Suits (Pull port) x = IsTrue (is_connected x.state.view.ports port)

-- the node of this number does this step, and what it changed in its list is noted
abbrev pub note_step : NodeNumber → (PortNode → NodeStep) → CableWorld → CableWorld
note_step node step w = note_changes w (with_step node step w)

-- two nodes do a step each, and what they changed in lists is noted
abbrev pub note_both :
    NodeNumber → (PortNode → NodeStep) → NodeNumber → (PortNode → NodeStep) → CableWorld → CableWorld
note_both first r second s w = note_changes w (with_step second s (with_step first r w))

-- with some delay and some longest times these are the parts of a lawful world
abbrev pub AreLawful : Wiring → List PortNode → List (List Wire) → List ℕ → ℕ → Type 0
AreLawful cabling nodes wires changed turns =
    (d : ℕ) × (t : Timing) × IsLawful (world_record d t cabling nodes wires changed turns)

-- whatever the delay, the longest times and the cabling, a step leads from nodes, wires and last
-- changes to others
abbrev pub StepLeads :
    (CableWorld → CableWorld) → ℕ → List PortNode → List (List Wire) → List ℕ → List PortNode → List (List Wire)
    → List ℕ → Type 0
StepLeads step turns nodes wires changed new_nodes new_wires new_changed =
    (d : ℕ) (t : Timing) (c : Wiring) → world_record d t c new_nodes new_wires new_changed turns
    ≡ step (world_record d t c nodes wires changed turns)
