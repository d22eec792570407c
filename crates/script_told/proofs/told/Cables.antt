-- Acts and turns leave cables that are a cabling, and an act leads to one world.
use Rattle.std.proofs.Common.{◌≡◌, ℕ, zero, suc, Option, None, Some, refl, sym, ◌∙◌, ap, subst}
use Rattle.cabling.specs.declared.cable.End.{End}
use Rattle.cabling.specs.Wiring.{Wiring, IsCabling, far}
use Rattle.cabling.specs.Change.{Added, TakenOut}
use Rattle.cabling.proofs.Lemmas.{component_within, added_by_writes, taken_by_writes, cabling_added, cabling_taken, Pluggable, pluggable}
use Rattle.port_state.specs.Machine.{node_disturb, node_plugged, node_pulled, node_set_config}
use Rattle.port_state.specs.Config.{config_packet}
use Rattle.cable_world.specs.declared.act.Act.{Act}
use Rattle.cable_world.specs.declared.act.Act.TheVariants.{Plug, Pull, Reset, Config}
use Rattle.cable_world.specs.World.{CableWorld, NodeSet, put}
use Rattle.cable_world.specs.Turn.{turn, turns_after}
use Rattle.cable_world.specs.Act.{ActLeads, act_fault, plug, pull, pull_from, add_cable, remove_cable, with_step, note_changes, configure, change_in_set}
use Rattle.cable_world.proofs.Lemmas.{step-cables, cabling-after, same-set}

-- the cables of a world are a cabling
abbrev pub IsCabled : CableWorld → Type 0
IsCabled w = IsCabling w.cabling

alike : (w v : CableWorld) → v.cabling ≡ w.cabling → IsCabled w → IsCabled v
alike w v same h = subst IsCabling (sym same) h

-- ---- turns

pub turns-cabled : (k : ℕ) (w : CableWorld) → IsCabled w → IsCabled (turns_after k w)
unfolding turns_after
turns-cabled zero w h = h
turns-cabled (suc k) w h = turns-cabled k (turn w) (alike w (turn w) (cabling-after w) h)

-- ---- acts

plug-adds :
    (a b : End) (w : CableWorld) → act_fault (Plug a b) w ≡ None →
    Added w.cabling (plug a b w).cabling a b
plug-adds a b w none =
    let may : Pluggable w.cabling a b = pluggable w.cabling a b none in
    let c : Wiring = put b (Some a) (put a (Some b) w.cabling) in
    let added : Added w.cabling c a b =
    added_by_writes w.cabling a b may.has_a may.has_b may.free_a may.free_b may.apart in
    let start : CableWorld = add_cable a b w in
    let next : CableWorld = with_step a.node (node_plugged a.port) start in
    let same : (plug a b w).cabling ≡ c =
    step-cables b.node (node_plugged b.port) next
    ∙ step-cables a.node (node_plugged a.port) start in
    subst (λ (new : Wiring). Added w.cabling new a b) (sym same) added

plug-cabled :
    (a b : End) (w : CableWorld) → act_fault (Plug a b) w ≡ None → IsCabled w →
    IsCabled (plug a b w)
plug-cabled a b w none h =
    cabling_added w.cabling (plug a b w).cabling a b h (pluggable w.cabling a b none).apart
    (plug-adds a b w none)

pull-takes :
    (a b : End) (w : CableWorld) → far w.cabling a ≡ Some b → IsCabled w →
    TakenOut w.cabling (pull_from a (Some b) w).cabling a b
pull-takes a b w at h =
    let c : Wiring = put b None (put a None w.cabling) in
    let start : CableWorld = remove_cable a b w in
    let next : CableWorld = with_step a.node (node_pulled a.port) start in
    let same : (pull_from a (Some b) w).cabling ≡ c =
    step-cables b.node (node_pulled b.port) next ∙ step-cables a.node (node_pulled a.port) start in
    subst (λ (new : Wiring). TakenOut w.cabling new a b) (sym same) (taken_by_writes w.cabling a b h at)

pull-cabled :
    (a : End) (o : Option End) (w : CableWorld) → far w.cabling a ≡ o → IsCabled w →
    IsCabled (pull_from a o w)
pull-cabled a None w at h = h
pull-cabled a (Some b) w at h =
    cabling_taken w.cabling (pull_from a (Some b) w).cabling a b h (pull-takes a b w at h)

noted : (w u v : CableWorld) → v ≡ note_changes w u → IsCabled u → IsCabled v
noted w u v is h = subst IsCabled (sym is) h

pub act-cabled :
    (a : Act) (w v : CableWorld) → act_fault a w ≡ None → ActLeads a w v → IsCabled w →
    IsCabled v
act-cabled (Plug a b) w v none is h = noted w (plug a b w) v is (plug-cabled a b w none h)
act-cabled (Pull end) w v none is h =
    noted w (pull end w) v is (pull-cabled end (far w.cabling end) w refl h)
act-cabled (Reset node) w v none is h =
    noted w (with_step node node_disturb w) v is
    (alike w (with_step node node_disturb w) (step-cables node node_disturb w) h)
act-cabled (Config from root_id force gap) w v none is h =
    let packet = config_packet root_id force gap in
    let told : CableWorld =
    record w { nodes = change_in_set is.0 (node_set_config packet) 0 w.nodes } in
    noted w (configure is.0 from packet w) v is.2
    (alike w (configure is.0 from packet w) (step-cables from node_disturb told) h)

-- ---- the cable of an act

pub act-adds :
    (a b : End) (w v : CableWorld) → act_fault (Plug a b) w ≡ None → ActLeads (Plug a b) w v →
    Added w.cabling v.cabling a b
act-adds a b w v none is =
    subst (λ (u : CableWorld). Added w.cabling u.cabling a b) (sym is) (plug-adds a b w none)

pub act-takes :
    (a b : End) (w v : CableWorld) → far w.cabling a ≡ Some b → IsCabled w →
    ActLeads (Pull a) w v → TakenOut w.cabling v.cabling a b
act-takes a b w v at h is =
    let from : v ≡ note_changes w (pull_from a (Some b) w) =
    is ∙ ap (λ (o : Option End). note_changes w (pull_from a o w)) at in
    subst (λ (u : CableWorld). TakenOut w.cabling u.cabling a b) (sym from) (pull-takes a b w at h)

-- ---- one world

pub one-world : (a : Act) (w u v : CableWorld) → ActLeads a w u → ActLeads a w v → u ≡ v
one-world (Plug a b) w u v x y = x ∙ sym y
one-world (Pull end) w u v x y = x ∙ sym y
one-world (Reset node) w u v x y = x ∙ sym y
one-world (Config from root_id force gap) w u v x y =
    let packet = config_packet root_id force gap in
    let sets : x.0 ≡ y.0 =
    same-set x.0 y.0 (λ k. (
      component_within w.cabling from x.0 y.0 x.1 y.1 k,
      component_within w.cabling from y.0 x.0 y.1 x.1 k,
    )) in
    x.2 ∙ ap (λ (set : NodeSet). note_changes w (configure set from packet w)) sets ∙ sym y.2
