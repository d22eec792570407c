use Rattle.std.proofs.Common.{sym, ◌∙◌, arith}
use Rattle.std.specs.Prelude.{slice_index}
use Rattle.speed_map.proofs.Facts.{first_le, speed_is}
use Rattle.speed_map.proofs.Steps.{taking_start, taking_skip, taking_read, taking_all}
use Rattle.speed_map.proofs.sweeps.fill_below.Goals as goal
use Rattle.speed_map.proofs.sweeps.fill_below.Goals.{in-Some, in_default}

pub loop-slot-init : goal.loop-slot-init
loop-slot-init c =
    taking_start c.args.tree.now c.args.rows.now c.args.id c.speed-cap.result c.len-len.ensures.valid c.requires.id c.requires.before
    (c.speed-cap.ensures ∙ sym (speed_is c.args.tree.now c.args.id c.node-node.result.now c.node-node.ensures))

pub copy_capped-requires-clause-part : goal.copy_capped-requires-clause-part
copy_capped-requires-clause-part c =
    let e = c.requires.firsts c.in-Some.child c.in-Some.ensures.child.1 in
    let le = first_le c.args.tree.now c.in-Some.child (omega (arith, c.in-Some.ensures.child.1, c.requires.id)) in
    omega (arith, e, le)

pub loop-slot-preserved : goal.loop-slot-preserved
loop-slot-preserved c = elim c.match-child_at.branch [
  | in-Some w ↦
      let k = w.in-Some.child in
      let far = w.in-Some.ensures.child.0 in
      let before = w.in-Some.ensures.child.1 in
      let limit = c.speed-cap.ensures ∙ sym (speed_is c.args.tree.now c.args.id c.node-node.result.now c.node-node.ensures) in
      rw (w.rows-is, w.first-is, w.min-first.ensures)
      (taking_read c.args.tree.now c.loop-slot.rows w.copy_capped.new.rows c.args.id c.loop-slot.slot c.loop-slot.first k (slice_index c.args.firsts.now k) c.speed-cap.result c.len-len.ensures.valid c.requires.id
      c.loop-slot.invariant far before limit w.copy_capped.auto.rows (c.requires.firsts k before) w.copy_capped.ensures)
  | in_default w ↦ rw (w.rows-is, w.first-is) (taking_skip c.args.tree.now c.loop-slot.rows c.args.id c.loop-slot.slot c.loop-slot.first c.loop-slot.invariant w.in_default.ensures.none)
]

pub returns-clause-first : goal.returns-clause-first
returns-clause-first c =
    (taking_all c.args.tree.now c.loop-slot.rows c.args.id c.loop-slot.slot c.loop-slot.first c.node-node.result.now c.requires.id c.node-node.ensures (omega arith) c.loop-slot.invariant).first_is

pub returns-clause-after : goal.returns-clause-after
returns-clause-after c =
    (taking_all c.args.tree.now c.loop-slot.rows c.args.id c.loop-slot.slot c.loop-slot.first c.node-node.result.now c.requires.id c.node-node.ensures (omega arith) c.loop-slot.invariant).rising
