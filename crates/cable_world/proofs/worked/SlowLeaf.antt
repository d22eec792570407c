-- A slower clock may change who becomes root. Three nodes are plugged into a fourth, and each signal
-- takes a turn. Where all clocks tick together, the three ask the one in the middle, which is root. Where
-- the clock of the last one misses a turn before it asks, it and the middle ask each other; it draws 1 and
-- waits for longer, so that it is root.
use Rattle.std.proofs.Common.{◌≡◌, ℕ, [], ◌∷◌, Some, None, map, refl}
use Rattle.self_id.specs.Group.{group}
use Rattle.port_state.specs.Clock.{Clock, even, every}
use Rattle.port_state.specs.Entry.{enter}
use Rattle.port_state.specs.Heard.{on_signal}
use Rattle.port_state.specs.Tick.{tick}
use Rattle.port_state.specs.Machine.{PortNode}
use Rattle.cable_world.specs.World.{CableWorld, world_of_nodes}
use Rattle.cable_world.specs.Turn.{turn, turns_after}
use Rattle.cable_world.proofs.worked.Summary.{plain_node, at, after_plug}

-- the middle is node 0, and the last one has this clock
abbrev star : Clock → CableWorld
star clock =
    after_plug (at 0 2) (at 3 0)
    (after_plug (at 0 1) (at 2 0)
    (after_plug (at 0 0) (at 1 0)
    (world_of_nodes 4 (plain_node 0 ∷ plain_node 0 ∷ plain_node 0 ∷ record (plain_node 1) { clock = clock } ∷ []))))

middle-root :
    (map (λ (x : PortNode). x.state.view.parent) (turns_after 270 (star even)).nodes ≡ None ∷ Some 0 ∷ Some 0 ∷ Some 0 ∷ [])
    × (map (λ (x : PortNode). x.state.view.id) (turns_after 270 (star even)).nodes ≡ Some 3 ∷ Some 0 ∷ Some 1 ∷ Some 2 ∷ [])
unfolding turn turns_after enter tick on_signal group
middle-root = (refl, refl)

last-root :
    (map (λ (x : PortNode). x.state.view.parent) (turns_after 305 (star (every 300 256))).nodes ≡ Some 2 ∷ Some 0 ∷ Some 0 ∷ None ∷ [])
    × (map (λ (x : PortNode). x.state.view.id) (turns_after 305 (star (every 300 256))).nodes ≡ Some 2 ∷ Some 0 ∷ Some 1 ∷ Some 3 ∷ [])
unfolding turn turns_after enter tick on_signal group
last-root = (refl, refl)
