-- A loop, and a contention that doesn't end.
use Rattle.std.proofs.Common.{◌≡◌, ℕ, Bool, true, false, List, [], ◌∷◌, refl, map}
use Rattle.port_state.specs.declared.signal.Phase.{Phase}
use Rattle.port_state.specs.declared.signal.Phase.TheVariants.{TreeStart, ParentShake, Contend}
use Rattle.port_state.specs.Entry.{enter}
use Rattle.port_state.specs.Heard.{on_signal}
use Rattle.port_state.specs.Tick.{tick}
use Rattle.port_state.specs.Machine.{PortNode}
use Rattle.cable_world.specs.World.{CableWorld, world_of_nodes}
use Rattle.cable_world.specs.Turn.{turn, turns_after}
use Rattle.cable_world.proofs.worked.Summary.{plain_node, at, after_plug, story}

-- two cables between two nodes
abbrev pub loop : CableWorld
loop = after_plug (at 0 1) (at 1 1) (after_plug (at 0 0) (at 1 0) (world_of_nodes 4 (plain_node 0 ∷ plain_node 0 ∷ [])))

-- for each node its phase, and whether its configuration timed out
abbrev timeouts : CableWorld → List (Phase × Bool)
timeouts w = map (λ (x : PortNode). (x.state.view.phase, x.state.view.timed_out)) w.nodes

-- after 2,304 and after 2,305 turns
times-out : story timeouts (1 ∷ []) (turns_after 2304 loop) ≡
    ((TreeStart, false) ∷ (TreeStart, false) ∷ []) ∷
    ((TreeStart, true) ∷ (TreeStart, true) ∷ []) ∷ []
unfolding turn turns_after enter tick on_signal
times-out = refl

-- one cable between nodes that always draw 0
abbrev pub alike : CableWorld
alike = after_plug (at 0 0) (at 1 0) (world_of_nodes 4 (plain_node 0 ∷ plain_node 0 ∷ []))

-- for each node its phase, and how many coins it drew
abbrev draws : CableWorld → List (Phase × ℕ)
draws w = map (λ (x : PortNode). (x.state.view.phase, x.state.view.draws)) w.nodes

-- a coin is drawn in turn 260, and then in every 13th: after 260, 272, 273, 286 and 663 turns
draws-on : story draws (12 ∷ 1 ∷ 13 ∷ 377 ∷ []) (turns_after 260 alike) ≡
    ((Contend, 1) ∷ (Contend, 1) ∷ []) ∷
    ((ParentShake, 1) ∷ (ParentShake, 1) ∷ []) ∷
    ((Contend, 2) ∷ (Contend, 2) ∷ []) ∷
    ((Contend, 3) ∷ (Contend, 3) ∷ []) ∷
    ((Contend, 32) ∷ (Contend, 32) ∷ []) ∷ []
unfolding turn turns_after enter tick on_signal
draws-on = refl
