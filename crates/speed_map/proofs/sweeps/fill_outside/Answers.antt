use Rattle.std.proofs.Common.{◌+◌, length, sym, ◌∙◌, subst, arith}
use Rattle.topology_stack.specs.Tree.{walk}
use Rattle.speed_map.specs.codings.Sweep.{Written, first_of}
use Rattle.speed_map.proofs.Facts.{first_le, speed_is, parent_in}
use Rattle.speed_map.proofs.Steps.{falling_more}
use Rattle.speed_map.proofs.sweeps.fill_outside.Goals as goal

pub copy_capped-requires-clause-of_row : goal.copy_capped-requires-clause-of_row
copy_capped-requires-clause-of_row c =
    let p = parent_in c.args.tree.now c.args.id c.parent_of-parent.ensures.far.slot c.parent_of-parent.result c.requires.id c.parent_of-parent.ensures.far.far c.parent_of-parent.ensures.after in
    omega (arith, p.0, c.requires.before.size)

pub copy_capped-requires-clause-inside : goal.copy_capped-requires-clause-inside
copy_capped-requires-clause-inside c =
    let le = first_le c.args.tree.now c.args.id (omega arith) in
    let e = c.requires.firsts c.args.id (omega arith) in
    omega (arith, le, e, c.len-len.ensures.few)

pub copy_capped-requires-2-clause-of_row : goal.copy_capped-requires-2-clause-of_row
copy_capped-requires-2-clause-of_row c =
    let p = parent_in c.args.tree.now c.args.id c.parent_of-parent.ensures.far.slot c.parent_of-parent.result c.requires.id c.parent_of-parent.ensures.far.far c.parent_of-parent.ensures.after in
    omega (arith, p.0, c.requires.before.size, c.copy_capped.auto.rows)

pub returns : goal.returns
returns c =
    let t = c.args.tree.now in
    let p = c.parent_of-parent.result in
    let limit = c.speed-cap.ensures ∙ sym (speed_is t c.args.id c.node.result.now c.node.ensures) in
    let first = c.requires.firsts c.args.id (omega arith) in
    let front : Written c.args.rows.now c.copy_capped.new.rows p c.args.id 0 (first_of t c.args.id) c.speed-cap.result
    = subst (λ high. Written c.args.rows.now c.copy_capped.new.rows p c.args.id 0 high c.speed-cap.result) first c.copy_capped.ensures in
    let back : Written c.copy_capped.new.rows c.copy_capped-2.new.rows p c.args.id (c.args.id + 1) (length (walk t)) c.speed-cap.result
    = subst (λ high. Written c.copy_capped.new.rows c.copy_capped-2.new.rows p c.args.id (c.args.id + 1) high c.speed-cap.result) c.len-len.ensures.value c.copy_capped-2.ensures in
    falling_more t c.args.rows.now c.copy_capped.new.rows c.copy_capped-2.new.rows c.args.id c.parent_of-parent.ensures.far.slot p c.speed-cap.result c.len-len.ensures.valid c.requires.id c.requires.before
    c.parent_of-parent.ensures.far.far c.parent_of-parent.ensures.after limit c.copy_capped.auto.rows c.copy_capped-2.auto.rows front back
