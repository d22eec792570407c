use Rattle.std.proofs.Common.{◌≡◌, Some, sym, ◌∙◌, arith}
use Rattle.std.proofs.lemmas.Option.{same_Some}
use Rattle.speed_map.proofs.Facts.{has_parent, slot_within, not_past}
use Rattle.speed_map.proofs.sweeps.parent_of.Goals as goal
use Rattle.speed_map.proofs.sweeps.parent_of.Goals.{in-Some+else-parent-id, in_default}

pub loop-slot-preserved : goal.loop-slot-preserved
loop-slot-preserved c = not_past c.args.tree.now c.args.id c.loop-slot.slot c.far.result c.loop-slot.invariant c.far.ensures.end (elim c.match-far.branch [
  | in-Some+else-parent-id w ↦ λ k e. let same : w.in-Some.parent ≡ k = same_Some w.in-Some.parent k (sym w.in-Some.is ∙ e) in omega (arith, same, w.if-parent-id.false)
  | in_default w ↦ λ k e. absurd (w.in_default.not-Some k e)
])

pub unreachable-requires : goal.unreachable-requires
unreachable-requires c =
    let h = has_parent c.args.tree.now c.args.id c.len-len.ensures.valid c.requires in
    let within = slot_within c.args.tree.now c.args.id h.slot (Some h.k) c.node.result.now (omega arith) h.far c.node.ensures in
    let le = c.loop-slot.invariant h.slot h.k (omega (arith, within)) h.far in
    omega (arith, le, h.after)
