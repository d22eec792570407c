-- Three nodes in a line, of which the middle one becomes root.
use Rattle.std.proofs.Common.{◌≡◌, ℕ, true, false, List, [], ◌∷◌, Some, None, refl, map}
use Rattle.self_id.specs.Group.{group}
use Rattle.port_state.specs.declared.signal.Phase.TheVariants.{ResetWait, TreeStart, ChildShake, SelfIdent, Ready}
use Rattle.port_state.specs.Entry.{enter}
use Rattle.port_state.specs.Heard.{on_signal}
use Rattle.port_state.specs.Tick.{tick}
use Rattle.port_state.specs.Machine.{PortNode}
use Rattle.cable_world.specs.World.{CableWorld, world_of_nodes}
use Rattle.cable_world.specs.Turn.{turn, turns_after}
use Rattle.cable_world.proofs.worked.Summary.{plain_node, node_of, attrs, at, after_plug, summaries, summary, childless, two_children, story}

-- the first contends to be isochronous resource manager; the second is in the middle
abbrev pub start : CableWorld
start = after_plug (at 1 1) (at 2 0) (after_plug (at 0 0) (at 1 0) (world_of_nodes 4 (node_of 3 (attrs true 2 true) 0 ∷ plain_node 0 ∷ plain_node 0 ∷ [])))

abbrev pub list : List ℕ
list = 0x807f8896 ∷ 0x817f8096 ∷ 0x827f80f6 ∷ []

-- after 256, 257, 260, 262 and 268 turns
line : story summaries (1 ∷ 3 ∷ 2 ∷ 6 ∷ []) (turns_after 256 start) ≡
    (summary ResetWait 0 None childless None [] ∷ summary ResetWait 0 None childless None [] ∷ summary ResetWait 0 None childless None [] ∷ []) ∷
    (summary TreeStart 0 None childless None [] ∷ summary TreeStart 0 None childless None [] ∷ summary TreeStart 0 None childless None [] ∷ []) ∷
    (summary SelfIdent 0 (Some 0) childless None [] ∷ summary ChildShake 0 None two_children None [] ∷ summary SelfIdent 0 (Some 0) childless None [] ∷ []) ∷
    (summary SelfIdent 0 (Some 0) childless None [] ∷ summary SelfIdent 0 None two_children None [] ∷ summary SelfIdent 0 (Some 0) childless None [] ∷ []) ∷
    (summary Ready 0 (Some 0) childless (Some 0) list ∷ summary Ready 0 None two_children (Some 2) list ∷ summary Ready 0 (Some 0) childless (Some 1) list ∷ []) ∷ []
unfolding turn turns_after enter tick on_signal group
line = refl

-- only the root has been granted anything after 262 turns
grants :
    map (λ (x : PortNode). x.state.view.granted) (turns_after 262 start).nodes
    ≡ false ∷ true ∷ false ∷ []
unfolding turn turns_after enter tick on_signal group
grants = refl

-- the root is the last to change its list, and the others hear of it in the next turn
changes : (turns_after 268 start).changed ≡ 268 ∷ 267 ∷ 268 ∷ []
unfolding turn turns_after enter tick on_signal group
changes = refl
