-- Three nodes in a line, the last one plugged when the others have settled. It alone waits to
-- become root, and does.
use Rattle.std.proofs.Common.{◌≡◌, ℕ, true, false, List, [], ◌∷◌, Option, Some, None, refl, map}
use Rattle.outcomes.proofs.Common.{group, Phase, ResetStart, Ready, enter, on_signal, tick, PortNode, CableWorld, turn, turns_after, attrs, at, waits_due}
use Rattle.cable_world.specs.World.{world_of_nodes}
use Rattle.cable_world.proofs.Lemmas.{node_of, after_plug}

waiting : PortNode → PortNode
waiting x = record x { state = record x.state { view = record x.state.view { force = true; next_force = true } } }

abbrev plain : ℕ → PortNode
plain coin = node_of 2 (attrs true 0 false) coin

abbrev start : CableWorld
start = after_plug (at 1 1) (at 2 0) (turns_after 400 (after_plug (at 0 0) (at 1 0) (world_of_nodes 4 (plain 0 ∷ plain 1 ∷ waiting (plain 0) ∷ []))))

abbrev phases : ℕ → List Phase
phases i = map (λ (x : PortNode). x.state.view.phase) (turns_after i start).nodes

abbrev parents : ℕ → List (Option ℕ)
parents i = map (λ (x : PortNode). x.state.view.parent) (turns_after i start).nodes

-- the first node is out of R0, the others have begun; the last alone waits
begun :
    (phases 0 ≡ Ready ∷ ResetStart ∷ ResetStart ∷ [])
    × (map (λ (x : PortNode). waits_due x.state.view) start.nodes ≡ false ∷ false ∷ true ∷ [])
unfolding turn turns_after enter tick on_signal group waiting
begun = (refl, refl)

-- within d turns the reset comes to it
spreads : phases 4 ≡ ResetStart ∷ ResetStart ∷ ResetStart ∷ []
unfolding turn turns_after enter tick on_signal group waiting
spreads = refl

-- after 2 n d turns, the longest hold and d
ends : (phases 348 ≡ Ready ∷ Ready ∷ Ready ∷ []) × (parents 348 ≡ Some 0 ∷ Some 1 ∷ None ∷ [])
unfolding turn turns_after enter tick on_signal group waiting
ends = (refl, refl)
