use Rattle.std.proofs.Common.{refl, ◌≡◌, ◌+◌, ◌++◌, Some, None, length, take, drop, arith, subst, sym, ap, ◌∙◌}
use Rattle.std.proofs.lemmas.List.{take_at}
use Rattle.std.specs.Prelude.{nat_lt}
use Rattle.self_id.specs.Node.{Node, downs}
use Rattle.view_text.specs.Drawing.{bar}
use Rattle.view_text.specs.codings.Parts.{IsChildAt}
use Rattle.view_text.proofs.Parts.{LinesFrom, lines_begin, lines_none, lines_child, lines_end}
use Rattle.view_text.proofs.drawing.+put_tree.Goals as goal
use Rattle.view_text.proofs.drawing.+put_tree.Goals.{in-Some+in_ok-put_branch+in_ok-extend_from_slice+in_ok-put_tree, in_default}

pub loop-slot-init : goal.loop-slot-init
loop-slot-init t c = (
  lines_begin c.args.tree.now c.args.margin.now.items c.args.irm c.args.id c.root.result c.node.result.now c.args.out.now.items c.put_node_words.new.out.items
      c.node.ensures c.root.ensures c.in_ok-put_node_words.ensures,
  refl,
)

pub loop-slot-preserved : goal.loop-slot-preserved
loop-slot-preserved t c =
    let n = c.node-2.result.now in
    let outer = c.args.margin.now.items in
    let kept : c.loop-slot.margin.items ≡ outer = c.loop-slot.invariant.1 in
    let z : n.ports ≡ c.as_slice-ports.result.now = sym (ap (λ (m : Node). m.ports) c.behind-tree.view_is) ∙ sym c.as_slice-ports.ensures.value in
    elim c.match-child_at.branch [
      | in-Some+in_ok-put_branch+in_ok-extend_from_slice+in_ok-put_tree w ↦
          let is : c.child_at.result ≡ Some w.in-Some.child = w.in-Some.is in
          let goes : w.goes_on-on.result ≡ nat_lt 0 (downs (drop (c.loop-slot.slot + 1) n.ports)) =
          w.goes_on-on.ensures ∙ ap (λ ps. nat_lt 0 (downs (drop (c.loop-slot.slot + 1) ps))) (sym z) in
          let before : w.deref.result.now ≡ outer = w.deref.ensures.value ∙ kept in
          let below : w.extend_from_slice.new.self.items ≡ outer ++ bar w.goes_on-on.result =
          w.in_ok-extend_from_slice.ensures.items ∙ ap (λ l. l ++ w.bar.result.now) kept ∙ ap (λ l. outer ++ l) w.bar.ensures in (
            subst (λ o. LinesFrom c.args.tree.now outer c.args.irm c.args.id (c.loop-slot.slot + 1) c.args.out.now.items o.items) (sym w.out-is)
                (lines_child c.args.tree.now outer c.args.irm c.args.id c.loop-slot.slot w.in-Some.child w.goes_on-on.result n w.cable_to.result
                c.args.out.now.items c.loop-slot.out.items w.put_branch.new.out.items w.extend_from_slice.new.self.items w.put_tree.new.out.items c.node-2.ensures
                (subst (λ o. IsChildAt c.args.tree.now c.args.id c.loop-slot.slot o) is c.child_at.ensures.child) goes w.cable_to.ensures
                (rw before at w.in_ok-put_branch.ensures) below w.in_ok-put_tree.ensures.lines c.loop-slot.invariant.0),
            ap (λ m. m.items) w.margin-is ∙ w.truncate.ensures.items
                ∙ ap (λ l. take w.len-outer.result l) (w.in_ok-put_tree.ensures.margin ∙ below)
                ∙ take_at outer (bar w.goes_on-on.result) w.len-outer.result (omega (arith, w.len-outer.ensures, c.loop-slot.margin.ok.0, ap (λ l. length l) kept)),
          )
      | in_default w ↦
          let is : c.child_at.result ≡ None = w.in_default.is in (
            subst (λ o. LinesFrom c.args.tree.now outer c.args.irm c.args.id (c.loop-slot.slot + 1) c.args.out.now.items o.items) (sym w.out-is)
                (lines_none c.args.tree.now outer c.args.irm c.args.id c.loop-slot.slot c.args.out.now.items c.loop-slot.out.items
                (subst (λ o. IsChildAt c.args.tree.now c.args.id c.loop-slot.slot o) is c.child_at.ensures.child) c.loop-slot.invariant.0),
            ap (λ m. m.items) w.margin-is ∙ kept,
          )
    ]

pub returns-clause-lines : goal.returns-clause-lines
returns-clause-lines t c =
    let n = c.node-2.result.now in
    let z : n.ports ≡ c.as_slice-ports.result.now = sym (ap (λ (m : Node). m.ports) c.behind-tree.view_is) ∙ sym c.as_slice-ports.ensures.value in
    lines_end c.args.tree.now c.args.margin.now.items c.args.irm c.args.id c.loop-slot.slot n c.args.out.now.items c.loop-slot.out.items
    c.node-2.ensures (omega (arith, c.loop-slot-test.false, ap (λ ps. length ps) z)) c.loop-slot.invariant.0
