-- What an act does to the cables, and to a cable that it doesn't pull.
use Rattle.std.proofs.Common.{◌≡◌, ◌≢◌, Some, None, sym, ◌∙◌, ap}
use Rattle.cabling.specs.declared.cable.End.{End}
use Rattle.cabling.specs.Wiring.{Wiring, far}
use Rattle.cabling.proofs.Lemmas.{none_some, one_other, Pluggable, pluggable}
use Rattle.port_state.specs.Config.{config_packet}
use Rattle.port_state.specs.Machine.{node_disturb, node_plugged, node_pulled, node_set_config}
use Rattle.cable_world.specs.declared.act.Act.{Act}
use Rattle.cable_world.specs.declared.act.Act.TheVariants.{Plug, Pull, Reset, Config}
use Rattle.cable_world.specs.World.{CableWorld}
use Rattle.cable_world.specs.Act.{with_step, add_cable, remove_cable, plug, pull_from, reset, change_in_set, note_changes, ActLeads, act_fault}
use Rattle.cable_world.specs.Lawful.{IsWellFormed}
use Rattle.cable_world.proofs.Lemmas.{with_cable, without_cable, plug-cabled, pull-cabled, has-cable, step-cables}

-- ---- the cables after each act

pub plug-cables : (a b : End) (w : CableWorld) → (plug a b w).cabling ≡ with_cable a b w.cabling
plug-cables a b w =
    step-cables b.node (node_plugged b.port) (with_step a.node (node_plugged a.port) (add_cable a b w))
    ∙ step-cables a.node (node_plugged a.port) (add_cable a b w)

pub pull-cables :
    (a b : End) (w : CableWorld) → (pull_from a (Some b) w).cabling ≡ without_cable a b w.cabling
pull-cables a b w =
    step-cables b.node (node_pulled b.port) (with_step a.node (node_pulled a.port) (remove_cable a b w))
    ∙ step-cables a.node (node_pulled a.port) (remove_cable a b w)

pub noted-cables : (w u v : CableWorld) → v ≡ note_changes w u → v.cabling ≡ u.cabling
noted-cables w u v e = ap (λ (z : CableWorld). z.cabling) e

-- the world in which the cable of an end is pulled, with its other end
pub pulled-from :
    (a b : End) (w v : CableWorld) → far w.cabling a ≡ Some b →
    v ≡ note_changes w (pull_from a (far w.cabling a) w) →
    v ≡ note_changes w (pull_from a (Some b) w)
pulled-from a b w v at e = e ∙ ap (λ o. note_changes w (pull_from a o w)) at

-- ---- a cable that isn't pulled stays

stays-far :
    (c d : Wiring) (x : End) → d ≡ c → far d x ≡ far c x
stays-far c d x e = ap (λ (z : Wiring). far z x) e

pub act-cable :
    (a : Act) (w v : CableWorld) → act_fault a w ≡ None → ActLeads a w v → IsWellFormed w →
    (x y : End) → far w.cabling x ≡ Some y → a ≢ Pull x → a ≢ Pull y → far v.cabling x ≡ Some y
act-cable (Plug a b) w v none e f x y at not_x not_y =
    let may : Pluggable w.cabling a b = pluggable w.cabling a b none in
    let now : v.cabling ≡ with_cable a b w.cabling = noted-cables w (plug a b w) v e ∙ plug-cables a b w in
    let not_a : x ≢ a = λ is. none_some (far w.cabling a) y may.free_a (ap (far w.cabling) (sym is) ∙ at) in
    let not_b : x ≢ b = λ is. none_some (far w.cabling b) y may.free_b (ap (far w.cabling) (sym is) ∙ at) in
    stays-far (with_cable a b w.cabling) v.cabling x now ∙ (plug-cabled a b w.cabling none).others.others x not_a not_b ∙ at
act-cable (Pull a) w v none e f x y at not_x not_y =
    let cable = has-cable w.cabling a none in
    let b : End = cable.0 in
    let back : far w.cabling b ≡ Some a = f.cabling.both_ways a b cable.1 in
    let now : v.cabling ≡ without_cable a b w.cabling = noted-cables w (pull_from a (Some b) w) v (pulled-from a b w v cable.1 e) ∙ pull-cables a b w in
    let not_a : x ≢ a = λ is. not_x (ap (λ (z : End). Pull z) (sym is)) in
    let not_b : x ≢ b = λ is.
    let other : a ≡ y = one_other (far w.cabling b) a y back (ap (far w.cabling) (sym is) ∙ at) in
    not_y (ap (λ (z : End). Pull z) other) in
    stays-far (without_cable a b w.cabling) v.cabling x now ∙ (pull-cabled a b w.cabling f.cabling cable.1).others.others x not_a not_b ∙ at
act-cable (Reset node) w v none e f x y at not_x not_y =
    stays-far w.cabling v.cabling x (noted-cables w (reset node w) v e ∙ step-cables node node_disturb w) ∙ at
act-cable (Config from root_id force gap) w v none e f x y at not_x not_y =
    let told : CableWorld = record w { nodes = change_in_set e.0 (node_set_config (config_packet root_id force gap)) 0 w.nodes } in
    stays-far w.cabling v.cabling x (noted-cables w (reset from told) v e.2 ∙ step-cables from node_disturb told) ∙ at
