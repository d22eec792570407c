-- Five nodes in a line, and five in a star: the middle becomes root without contention. Each milestone
-- on the way is there by the share that it is allowed, and long before.
use Rattle.std.proofs.Common.{◌≡◌, ℕ, Bool, true, false, not, List, [], ◌∷◌, Option, Some, None, map, refl}
use Rattle.std.specs.Prelude.{slice_index_or}
use Rattle.convergence.proofs.Common.{enter, on_signal, tick, PortNode, CableWorld, world_of_nodes, turn, turns_after, is_before_tree, is_in_bus_reset, at, after_plug, ResetsAreOver, ResetsAreDone, TreesAreTaken, TreesAreDecided, turns_to_done, turns_to_trees, turns_to_decision, IsRoot}
use Rattle.cable_world.proofs.Lemmas.{node_of, attrs}
use Rattle.convergence.specs.Turns.{turns_to_over}
use Rattle.convergence.proofs.worked.AllNodes.{none-in, resets-over, trees-taken, trees-decided}

-- with four ports each
abbrev five : List PortNode
five =
    let x : PortNode = node_of 4 (attrs true 2 false) 0 in
    x ∷ x ∷ x ∷ x ∷ x ∷ []

abbrev pub line : CableWorld
line =
    after_plug (at 3 1) (at 4 0) (after_plug (at 2 1) (at 3 0)
    (after_plug (at 1 1) (at 2 0) (after_plug (at 0 0) (at 1 0) (world_of_nodes 4 five))))

abbrev pub star : CableWorld
star =
    after_plug (at 0 3) (at 4 0) (after_plug (at 0 2) (at 3 0)
    (after_plug (at 0 1) (at 2 0) (after_plug (at 0 0) (at 1 0) (world_of_nodes 4 five))))

-- for each node whether it took its roles, and its parent port
abbrev roles : CableWorld → List (Bool × Option ℕ)
roles w = map (λ (x : PortNode). (not (is_before_tree x.state.view.phase), x.state.view.parent)) w.nodes

-- in the line they take them one after the other, from the ends
line-grows :
    (roles (turns_after 258 line)
    ≡ (true, Some 0) ∷ (false, None) ∷ (false, None) ∷ (false, None) ∷ (true, Some 0) ∷ [])
    × (roles (turns_after 260 line)
    ≡ (true, Some 0) ∷ (true, Some 1) ∷ (true, None) ∷ (true, Some 0) ∷ (true, Some 0) ∷ [])
unfolding turn turns_after enter tick on_signal
line-grows = (refl, refl)

line-root : IsRoot (turns_after 260 line) 2
unfolding turn turns_after enter tick on_signal
line-root = record {
  node = slice_index_or (turns_after 260 line).nodes 2 (node_of 4 (attrs true 2 false) 0);
  at = refl;
  late = refl;
  parentless = refl;
}

-- in the star the middle is the second to do so
star-grows :
    roles (turns_after 259 star)
    ≡ (true, None) ∷ (true, Some 0) ∷ (true, Some 0) ∷ (true, Some 0) ∷ (true, Some 0) ∷ []
unfolding turn turns_after enter tick on_signal
star-grows = refl

-- ---- milestones

shares :
    (turns_to_over line ≡ 20) × (turns_to_done line ≡ 344) × (turns_to_trees line ≡ 1388)
    × (turns_to_decision line ≡ 3301)
unfolding enter
shares = (refl, refl, refl, refl)

line-over : ResetsAreOver (turns_after 1 line)
unfolding turn turns_after enter tick on_signal
line-over = resets-over (turns_after 1 line) refl

line-done : ResetsAreDone (turns_after 257 line)
unfolding turn turns_after enter tick on_signal
line-done = none-in is_in_bus_reset (turns_after 257 line) refl

line-taken : TreesAreTaken (turns_after 260 line)
unfolding turn turns_after enter tick on_signal
line-taken = trees-taken (turns_after 260 line) refl

line-decided : TreesAreDecided (turns_after 264 line)
unfolding turn turns_after enter tick on_signal
line-decided = trees-decided (turns_after 264 line) refl

star-taken : TreesAreTaken (turns_after 259 star)
unfolding turn turns_after enter tick on_signal
star-taken = trees-taken (turns_after 259 star) refl

star-decided : TreesAreDecided (turns_after 262 star)
unfolding turn turns_after enter tick on_signal
star-decided = trees-decided (turns_after 262 star) refl
