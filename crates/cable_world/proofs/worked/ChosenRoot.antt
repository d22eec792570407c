-- A configuration packet that makes a node the root.
use Rattle.std.proofs.Common.{◌≡◌, ℕ, true, [], ◌∷◌, Some, None, refl}
use Rattle.self_id.specs.Group.{group}
use Rattle.port_state.specs.declared.signal.Phase.TheVariants.{ResetStart, ResetWait, TreeStart, ChildShake, ParentShake, Ready}
use Rattle.port_state.specs.Entry.{enter}
use Rattle.port_state.specs.Heard.{on_signal}
use Rattle.port_state.specs.Tick.{tick}
use Rattle.cable_world.specs.World.{CableWorld, world_of_nodes}
use Rattle.cable_world.specs.Turn.{turn, turns_after}
use Rattle.port_state.specs.Config.{config_packet}
use Rattle.cable_world.specs.Act.{note_changes, configure}
use Rattle.cable_world.proofs.worked.Summary.{plain_node, at, after_plug, summaries, summary, childless, one_child, story}

-- two nodes on one cable, of which the second became root with ID 1
abbrev before : CableWorld
before = turns_after 299 (after_plug (at 0 0) (at 1 0) (world_of_nodes 4 (plain_node 0 ∷ plain_node 1 ∷ [])))

-- the second tells both, the set of the numbers 0 and 1, that the node with ID 0 is to be root
abbrev pub told_both : CableWorld
told_both = note_changes before (configure 3 1 (config_packet 0 true None) before)

abbrev first : ℕ
first = 0x807f8096

abbrev root : ℕ
root = 0x817f80d4

-- At once, and 1, 256, 257, 258, 259 and 266 turns later: the second node asks, the first waits to
-- be asked, and no coin is drawn. The second began the reset, so it alone shows the initiated bit.
chosen : story summaries (1 ∷ 255 ∷ 1 ∷ 1 ∷ 1 ∷ 7 ∷ []) told_both ≡
    (summary Ready 1 (Some 0) childless (Some 0) (0x807f8096 ∷ 0x817f80d6 ∷ []) ∷ summary ResetStart 0 None childless None [] ∷ []) ∷
    (summary ResetStart 0 None childless None [] ∷ summary ResetStart 0 None childless None [] ∷ []) ∷
    (summary ResetWait 0 None childless None [] ∷ summary ResetWait 0 None childless None [] ∷ []) ∷
    (summary TreeStart 0 None childless None [] ∷ summary TreeStart 0 None childless None [] ∷ []) ∷
    (summary TreeStart 0 None childless None [] ∷ summary ChildShake 0 (Some 0) childless None [] ∷ []) ∷
    (summary ChildShake 0 None one_child None [] ∷ summary ParentShake 0 (Some 0) childless None [] ∷ []) ∷
    (summary Ready 0 None one_child (Some 1) (first ∷ root ∷ []) ∷ summary Ready 0 (Some 0) childless (Some 0) (first ∷ root ∷ []) ∷ []) ∷ []
unfolding turn turns_after enter tick on_signal group
chosen = refl
