-- Two nodes on one cable, of which the first draws 0 and the second 1. They contend for the root.
use Rattle.std.proofs.Common.{◌≡◌, ℕ, List, [], ◌∷◌, Some, None, refl, map}
use Rattle.self_id.specs.Group.{group}
use Rattle.port_state.specs.declared.signal.Phase.TheVariants.{ResetStart, ResetWait, TreeStart, ChildShake, ParentShake, Contend, SelfIdent, Ready}
use Rattle.port_state.specs.Entry.{enter}
use Rattle.port_state.specs.Heard.{on_signal}
use Rattle.port_state.specs.Tick.{tick}
use Rattle.port_state.specs.Machine.{PortNode}
use Rattle.cable_world.specs.World.{CableWorld, world_of_nodes}
use Rattle.cable_world.specs.Turn.{turn, turns_after}
use Rattle.cable_world.proofs.worked.Summary.{plain_node, at, after_plug, summaries, summary, childless, one_child, story}

abbrev pub nodes : List PortNode
nodes = plain_node 0 ∷ plain_node 1 ∷ []

abbrev pub start : CableWorld
start = after_plug (at 0 0) (at 1 0) (world_of_nodes 4 nodes)

abbrev first : ℕ
first = 0x807f8096

abbrev second : ℕ
second = 0x817f80d6

-- before the first turn, and after 255, 256, 257, 258, 259, 260, 271, 272, 291, 292, 297, 298 and
-- 299 turns
contention : story summaries (255 ∷ 1 ∷ 1 ∷ 1 ∷ 1 ∷ 1 ∷ 11 ∷ 1 ∷ 19 ∷ 1 ∷ 5 ∷ 1 ∷ 1 ∷ []) start ≡
    (summary ResetStart 0 None childless None [] ∷ summary ResetStart 0 None childless None [] ∷ []) ∷
    (summary ResetStart 0 None childless None [] ∷ summary ResetStart 0 None childless None [] ∷ []) ∷
    (summary ResetWait 0 None childless None [] ∷ summary ResetWait 0 None childless None [] ∷ []) ∷
    (summary TreeStart 0 None childless None [] ∷ summary TreeStart 0 None childless None [] ∷ []) ∷
    (summary ChildShake 0 (Some 0) childless None [] ∷ summary ChildShake 0 (Some 0) childless None [] ∷ []) ∷
    (summary ParentShake 0 (Some 0) childless None [] ∷ summary ParentShake 0 (Some 0) childless None [] ∷ []) ∷
    (summary Contend 1 (Some 0) childless None [] ∷ summary Contend 1 (Some 0) childless None [] ∷ []) ∷
    (summary Contend 1 (Some 0) childless None [] ∷ summary Contend 1 (Some 0) childless None [] ∷ []) ∷
    (summary ParentShake 1 (Some 0) childless None [] ∷ summary Contend 1 (Some 0) childless None [] ∷ []) ∷
    (summary ParentShake 1 (Some 0) childless None [] ∷ summary Contend 1 (Some 0) childless None [] ∷ []) ∷
    (summary ParentShake 1 (Some 0) childless None [] ∷ summary ChildShake 1 None one_child None [] ∷ []) ∷
    (summary Ready 1 (Some 0) childless (Some 0) (first ∷ []) ∷ summary SelfIdent 1 None one_child None [] ∷ []) ∷
    (summary Ready 1 (Some 0) childless (Some 0) (first ∷ []) ∷ summary Ready 1 None one_child (Some 1) (first ∷ second ∷ []) ∷ []) ∷
    (summary Ready 1 (Some 0) childless (Some 0) (first ∷ second ∷ []) ∷ summary Ready 1 None one_child (Some 1) (first ∷ second ∷ []) ∷ []) ∷ []
unfolding turn turns_after enter tick on_signal group
contention = refl

-- each node counts the power-on and the plugging as resets; in turn 257 the timers begin anew
timers :
    let w = turns_after 257 start in (map (λ (x : PortNode). x.state.view.resets) w.nodes ≡ 2 ∷ 2 ∷ [])
    × (map (λ (x : PortNode). x.state.view.timer) w.nodes ≡ 0 ∷ 0 ∷ [])
unfolding turn turns_after enter tick on_signal
timers = (refl, refl)

-- the list of each changed last when it heard the other's packet, or sent its own
changes : (turns_after 299 start).changed ≡ 299 ∷ 298 ∷ []
unfolding turn turns_after enter tick on_signal group
changes = refl
