-- What acts leave as it is.
use Rattle.std.proofs.Common.{◌≡◌, ℕ, ◌+◌, suc, List, [], ◌∷◌, Option, Some, None, length, length-set, slice_get, refl, ◌∙◌, ap}
use Rattle.cabling.specs.declared.cable.End.{End}
use Rattle.cabling.specs.Wiring.{far}
use Rattle.port_state.specs.Config.{ConfigPacket, config_packet}
use Rattle.port_state.specs.Machine.{PortNode, NodeStep, node_disturb, node_plugged, node_pulled, node_set_config}
use Rattle.cable_world.specs.declared.act.Act.{Act}
use Rattle.cable_world.specs.declared.act.Act.TheVariants.{Plug, Pull, Reset, Config}
use Rattle.cable_world.specs.World.{CableWorld}
use Rattle.cable_world.specs.Act.{step_at, with_step, add_cable, remove_cable, plug, pull_from, pull, reset, change_in_set, configure, note_changes, ActLeads}

-- as many nodes and turns, and d and the longest times as before
pub record Keeps (w v : CableWorld) : Type 0 where
  pub nodes : length v.nodes ≡ length w.nodes
  pub turns : v.turns ≡ w.turns
  pub delay : v.delay ≡ w.delay
  pub longest : v.longest ≡ w.longest

and-then : {w u v : CableWorld} → Keeps w u → Keeps u v → Keeps w v
and-then a b = record { nodes = b.nodes ∙ a.nodes; turns = b.turns ∙ a.turns; delay = b.delay ∙ a.delay; longest = b.longest ∙ a.longest }

step-at :
    (o : Option PortNode) (node : ℕ) (step : PortNode → NodeStep) (w : CableWorld) →
    Keeps w (step_at o node step w)
step-at None node step w = record { nodes = refl; turns = refl; delay = refl; longest = refl }
step-at (Some x) node step w = record { nodes = length-set w.nodes node (step x).node; turns = refl; delay = refl; longest = refl }

step : (node : ℕ) (step : PortNode → NodeStep) (w : CableWorld) → Keeps w (with_step node step w)
step node s w = step-at (slice_get w.nodes node) node s w

pub in-set :
    (set : ℕ) (change : PortNode → PortNode) (k : ℕ) (nodes : List PortNode) →
    length (change_in_set set change k nodes) ≡ length nodes
in-set set change k [] = refl
in-set set change k (x ∷ nodes) = ap suc (in-set set change (k + 1) nodes)

two-steps :
    (a b : ℕ) (f g : PortNode → NodeStep) (w v : CableWorld) → Keeps w v →
    Keeps w (with_step b g (with_step a f v))
two-steps a b f g w v h = and-then {u = with_step a f v} (and-then {u = v} h (step a f v)) (step b g (with_step a f v))

plugging : (a b : End) (w : CableWorld) → Keeps w (plug a b w)
plugging a b w = two-steps a.node b.node (node_plugged a.port) (node_plugged b.port) w (add_cable a b w) (record { nodes = refl; turns = refl; delay = refl; longest = refl })

pulling : (a : End) (o : Option End) (w : CableWorld) → Keeps w (pull_from a o w)
pulling a None w = record { nodes = refl; turns = refl; delay = refl; longest = refl }
pulling a (Some b) w = two-steps a.node b.node (node_pulled a.port) (node_pulled b.port) w (remove_cable a b w) (record { nodes = refl; turns = refl; delay = refl; longest = refl })

configuring :
    (set from : ℕ) (packet : ConfigPacket) (w : CableWorld) → Keeps w (configure set from packet w)
configuring set from packet w =
    let v : CableWorld = record w { nodes = change_in_set set (node_set_config packet) 0 w.nodes } in
    and-then {u = v} (record { nodes = in-set set (node_set_config packet) 0 w.nodes; turns = refl; delay = refl; longest = refl }) (step from node_disturb v)

noting : (w v u : CableWorld) → u ≡ note_changes w v → Keeps w v → Keeps w u
noting w v u e h = record {
  nodes = ap (λ (x : CableWorld). length x.nodes) e ∙ h.nodes;
  turns = ap (λ (x : CableWorld). x.turns) e ∙ h.turns;
  delay = ap (λ (x : CableWorld). x.delay) e ∙ h.delay;
  longest = ap (λ (x : CableWorld). x.longest) e ∙ h.longest;
}

pub act-keeps : (a : Act) (w v : CableWorld) → ActLeads a w v → Keeps w v
act-keeps (Plug a b) w v h = noting w (plug a b w) v h (plugging a b w)
act-keeps (Pull end) w v h = noting w (pull end w) v h (pulling end (far w.cabling end) w)
act-keeps (Reset node) w v h = noting w (reset node w) v h (step node node_disturb w)
act-keeps (Config from root_id force gap) w v h =
    noting w (configure h.0 from (config_packet root_id force gap) w) v h.2 (configuring h.0 from (config_packet root_id force gap) w)
