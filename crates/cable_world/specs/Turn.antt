-- A turn. What a node sends stays on its wires until a later turn, so nodes don't meet within one:
-- each takes its turn from the world as it was before, all at once.
use Rattle.std.specs.Prelude.{ℕ, zero, suc, ◌+◌, Bool, List, [], ◌∷◌, ◌++◌, map, Option, None, Some, nat_eq, if◌then◌else◌}
use Rattle.std.specs.Cmp.Lexicographic.{pointwise}
use Rattle.cabling.specs.declared.cable.End.{End}
use Rattle.cabling.specs.Wiring.{Wiring, ports_of}
use Rattle.port_state.specs.declared.signal.Signal.{Signal}
use Rattle.port_state.specs.declared.states.NodeState.{NodeState}
use Rattle.port_state.specs.Heard.{on_signal}
use Rattle.port_state.specs.Ports.{PortNumber}
use Rattle.port_state.specs.Sends.{PortSignal, sent_on}
use Rattle.port_state.specs.Step.{Step, silent_step}
use Rattle.port_state.specs.Machine.{PortNode, NodeStep, node_tick}
use Rattle.cable_world.specs.Wire.{Wire, add_signals, arrives, stays}
use Rattle.cable_world.specs.World.{CableWorld, NodeNumber, wire_of}

-- ---- what a node hears

-- what comes over the cable to this far end
abbrev pub signals_from : CableWorld → Option End → List Signal
signals_from w None = []
signals_from w (Some far) = arrives w.delay (wire_of w far)

-- the signals for the ports from number p on, with these far ends: by rising port, and those of one
-- port oldest first
abbrev pub inbox : CableWorld → PortNumber → List (Option End) → List PortSignal
inbox w p [] = []
inbox w p (far ∷ ports) = map (λ s. (p, s)) (signals_from w far) ++ inbox w (p + 1) ports

-- ---- what a node does

-- one step, and then another
abbrev pub step_then : Step → (NodeState → Step) → Step
step_then first next =
    let second = next first.state in
    record { state = second.state; sends = first.sends ++ second.sends }

-- a node hears signals, the first first
abbrev pub hear_all : List PortSignal → NodeState → Step
hear_all [] x = silent_step x
hear_all (s ∷ ss) x = step_then (on_signal s.0 s.1 x) (hear_all ss)

-- A node's part of a turn: it hears signals, and then its clock ticks. Hearing leaves its coins
-- alone.
abbrev pub node_turn : List PortSignal → PortNode → NodeStep
node_turn signals n =
    let heard = hear_all signals n.state in
    let ticked = node_tick (record n { state = heard.state }) in
    record { node = ticked.node; sends = heard.sends ++ ticked.sends }

-- node number k, which is x, in a turn
abbrev pub turn_at : CableWorld → NodeNumber → PortNode → NodeStep
turn_at w k x = node_turn (inbox w 0 (ports_of w.cabling k)) x

-- every node, with its ports' far ends
abbrev pub node_turns : CableWorld → Wiring → List PortNode → List NodeStep
node_turns w (ports ∷ rows) (x ∷ nodes) = node_turn (inbox w 0 ports) x ∷ node_turns w rows nodes
node_turns w rows nodes = []

-- ---- what is sent

-- the wires of a node's ports from number p on
abbrev pub wires_after_sends : PortNumber → List PortSignal → List Wire → List Wire
wires_after_sends p sends [] = []
wires_after_sends p sends (w ∷ wires) =
    add_signals (sent_on p sends) w ∷ wires_after_sends (p + 1) sends wires

-- the wires of every node
abbrev pub all_wires_after_sends : List NodeStep → List (List Wire) → List (List Wire)
all_wires_after_sends (s ∷ steps) (wires ∷ rows) =
    wires_after_sends 0 s.sends wires ∷ all_wires_after_sends steps rows
all_wires_after_sends steps rows = rows

-- ---- when lists last changed

abbrev pub same_list : PortNode → PortNode → Bool
same_list x y = pointwise nat_eq x.state.list.items y.state.list.items

-- the number of turns done, for each node whose list isn't what it was before
abbrev pub last_changes : ℕ → List PortNode → List PortNode → List ℕ → List ℕ
last_changes turns (x ∷ before) (y ∷ after) (c ∷ changed) =
    (if same_list x y then c else turns) ∷ last_changes turns before after changed
last_changes turns before after changed = changed

-- ---- the whole turn

abbrev pub after_turn : List NodeStep → CableWorld → CableWorld
after_turn steps w = record w {
  nodes = map (λ (s : NodeStep). s.node) steps;
  wires = all_wires_after_sends steps (map (map (stays w.delay)) w.wires);
  changed = last_changes (w.turns + 1) w.nodes (map (λ (s : NodeStep). s.node) steps) w.changed;
  turns = w.turns + 1;
}

unfoldable pub turn : CableWorld → CableWorld
turn w = after_turn (node_turns w w.cabling w.nodes) w

-- so many turns, one after the other
unfoldable pub turns_after : ℕ → CableWorld → CableWorld
turns_after zero w = w
turns_after (suc k) w = turns_after k (turn w)
