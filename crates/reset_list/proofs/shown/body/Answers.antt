use Rattle.std.proofs.lemmas.Result.{IfOk-weaker}
use Rattle.view_text.proofs.Lemmas.{some-drawing}
use Rattle.reset_list.specs.Shown.{the_same, drawn}
use Rattle.reset_list.proofs.shown.body.Goals as goal

pub returns-then-is_before : goal.returns-then-is_before
returns-then-is_before c =
    let some = some-drawing c.args.tree.now in
    let was = c.is_before.ensures c.if-is_before.true in
    IfOk-weaker c.as_before.result _ _ (λ body e. the_same some.0 some.1 (c.args.tree.now, was, some.1) e.0 e.1) c.as_before.ensures

pub returns-then-branch : goal.returns-then-branch
returns-then-branch c =
    let was = rw c.deref.ensures.value at c.in_ok-was_drawn.ensures.same in
    IfOk-weaker c.as_before-then-branch.result _ _ (λ body e. the_same c.in_ok-text.text.items c.in_ok-text.ensures (was c.if-branch.true) e.0 e.1) c.as_before-then-branch.ensures

pub returns-in_ok-by_node : goal.returns-in_ok-by_node
returns-in_ok-by_node c =
    let other = rw c.deref.ensures.value at c.in_ok-was_drawn.ensures.other in
    drawn c.in_ok-text.ensures (other c.if-branch.false) c.in_ok-by_node.ensures
