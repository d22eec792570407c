use Rattle.std.proofs.Common.{◌≡◌, refl, ◌∙◌}
use Rattle.port_state.specs.Group.{shown_node}
use Rattle.port_state.proofs.Lemmas.{shown-is_node}
use Rattle.self_identify.proofs.group.own_group.Goals as goal

pub new-requires : goal.new-requires
new-requires c =
    let slots : c.statuses-ports.result ≡ (shown_node c.args.s.now).ports =
    c.statuses-ports.ensures ∙ rw (c.slot_count-slots.ensures, c.from.ensures, c.requires.bounded.views) refl in
    rw (c.as_slice.ensures.value, slots) (shown-is_node c.args.s.now c.requires.bounded)
