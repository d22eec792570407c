use Rattle.std.proofs.Common.{◌≡◌, ◌+◌, length, get_or, Some, ap, ◌∙◌, arith}
use Rattle.std.specs.Prelude.{slice_get}
use Rattle.std.proofs.lemmas.Option.{slice_get-get_or}
use Rattle.topology_stack.specs.Tree.{Tree, walk}
use Rattle.topology_stack.proofs.Ends.{length-parents}
use Rattle.topology_stack.proofs.Parent.{no_parent, is_parent, one_parent}
use Rattle.topology_stack.proofs.tree.BusTree.parent.Goals as goal

pub returns-then-id-len-clause-only : goal.returns-then-id-len-clause-only
returns-then-id-len-clause-only c = λ parent is.
    let last : c.args.id + 1 ≡ length (walk c.args.self.now) = omega (arith, c.if-id-len.true, c.len-len.ensures.value) in
    absurd (no_parent c.args.self.now c.args.id parent c.len-len.ensures.valid last is)

pub overflow_add-id : goal.overflow_add-id
overflow_add-id c = omega (arith, c.requires, c.len-len.ensures.value, c.len-len.ensures.few)

pub bounds-deref-id : goal.bounds-deref-id
bounds-deref-id c = omega (arith, c.requires, length-parents _ _ _ _ c.self.invariant, ap length c.deref.ensures.0, ap length c.self.invariant.walk_is, ap (λ (t : Tree). length (walk t)) c.self.view_is)

pub returns-clause-parent : goal.returns-clause-parent
returns-clause-parent c =
    let parents = length-parents _ _ _ _ c.self.invariant in
    let len : length c.self.inside.nodes.items ≡ length (walk c.args.self.now) = ap length c.self.invariant.walk_is ∙ ap (λ (t : Tree). length (walk t)) c.self.view_is in
    let parent : slice_get c.self.inside.links.parents.items c.args.id
    ≡ Some (get_or c.deref.result.now c.args.id 0) =
    rw c.deref.ensures.0 (slice_get-get_or c.self.inside.links.parents.items c.args.id 0
    (omega (arith, parents, len, c.requires))) in
    rw (← c.self.view_is) (is_parent _ _ _ _ c.args.id (get_or c.deref.result.now c.args.id 0) c.self.invariant (omega (arith, len, c.requires, c.len-len.ensures.value, c.if-id-len.false)) parent)

pub returns-clause-only : goal.returns-clause-only
returns-clause-only c = λ parent is.
    let parents = length-parents _ _ _ _ c.self.invariant in
    let len : length c.self.inside.nodes.items ≡ length (walk c.args.self.now) = ap length c.self.invariant.walk_is ∙ ap (λ (t : Tree). length (walk t)) c.self.view_is in
    let kept : slice_get c.self.inside.links.parents.items c.args.id
    ≡ Some (get_or c.deref.result.now c.args.id 0) =
    rw c.deref.ensures.0 (slice_get-get_or c.self.inside.links.parents.items c.args.id 0
    (omega (arith, parents, len, c.requires))) in
    ap (λ x. Some x) (one_parent _ _ _ _ c.args.id (get_or c.deref.result.now c.args.id 0) parent c.self.invariant (omega (arith, len, c.requires)) kept (rw (c.self.view_is) is))
