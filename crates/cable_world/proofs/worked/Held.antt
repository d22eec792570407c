-- Two nodes on one cable, where the wire that leaves the first is held when both ask the other to
-- be their parent.
use Rattle.std.proofs.Common.{◌≡◌, ℕ, List, [], ◌∷◌, Some, None, refl}
use Rattle.self_id.specs.Group.{group}
use Rattle.port_state.specs.declared.signal.Phase.TheVariants.{ChildShake, ParentShake, Contend}
use Rattle.port_state.specs.declared.signal.Signal.{Signal}
use Rattle.port_state.specs.declared.signal.Signal.TheVariants as signal
use Rattle.port_state.specs.Entry.{enter}
use Rattle.port_state.specs.Heard.{on_signal}
use Rattle.port_state.specs.Tick.{tick}
use Rattle.cable_world.specs.Wire.{Wire, Travelling}
use Rattle.cable_world.specs.World.{CableWorld, world_of_nodes, wire_of}
use Rattle.cable_world.specs.Turn.{turn, turns_after}
use Rattle.cable_world.specs.Act.{hold}
use Rattle.cable_world.proofs.worked.Summary.{plain_node, at, after_plug, summaries, summary, childless, one_child, story}

abbrev before : CableWorld
before = turns_after 257 (after_plug (at 0 0) (at 1 0) (world_of_nodes 4 (plain_node 0 ∷ plain_node 1 ∷ [])))

-- Held for 3 turns: the second node hears the first's Parent in turn 261 only, and with it the Idle
-- that the first sent when it saw the contention. So it goes on asking, draws no coin, and becomes
-- the child when the first node's short wait is over in turn 272. After 260, 261, 271 and 272
-- turns:
three : story summaries (1 ∷ 10 ∷ 1 ∷ []) (turns_after 3 (hold (at 0 0) 3 before)) ≡
    (summary Contend 1 (Some 0) childless None [] ∷ summary ParentShake 0 (Some 0) childless None [] ∷ []) ∷
    (summary Contend 1 (Some 0) childless None [] ∷ summary ParentShake 0 (Some 0) childless None [] ∷ []) ∷
    (summary Contend 1 (Some 0) childless None [] ∷ summary ParentShake 0 (Some 0) childless None [] ∷ []) ∷
    (summary ChildShake 1 None one_child None [] ∷ summary ParentShake 0 (Some 0) childless None [] ∷ []) ∷ []
unfolding turn turns_after enter tick on_signal group
three = refl

abbrev travelling : Signal → ℕ → Travelling
travelling s age = record { signal = s; age = age }

abbrev wire : List Travelling → ℕ → Wire
wire signals held = record { signals = signals; held = held }

-- Held for 10 turns: the wire keeps what was sent on it until its oldest signal is 4 turns old, and
-- then gives all. After 257, 258, 259, 260, 261 and 262 turns:
ten : story (λ w. wire_of w (at 0 0)) (1 ∷ 1 ∷ 1 ∷ 1 ∷ 1 ∷ []) (hold (at 0 0) 10 before) ≡
    wire [] 10 ∷
    wire (travelling signal.Parent 0 ∷ []) 9 ∷
    wire (travelling signal.Parent 1 ∷ []) 8 ∷
    wire (travelling signal.Parent 2 ∷ travelling signal.Idle 0 ∷ []) 7 ∷
    wire (travelling signal.Parent 3 ∷ travelling signal.Idle 1 ∷ []) 6 ∷
    wire [] 5 ∷ []
unfolding turn turns_after enter tick on_signal group
ten = refl
