use Rattle.std.proofs.Common.{◌≡◌, ℕ, ◌<◌, Some, length, slice_get, get_or, subst, sym, ap, ◌∙◌, arith}
use Rattle.std.specs.Prelude.{IfSome}
use Rattle.std.proofs.lemmas.Option.{slice_get-get_or}
use Rattle.self_id.specs.Node.{Node}
use Rattle.self_id.specs.declared.node.PortStatus.TheVariants.{Absent, Down}
use Rattle.topology_stack.specs.Tree.{Tree, walk}
use Rattle.view_text.proofs.Parts.{is_child, no_child, no_node, child_lower}
use Rattle.view_text.proofs.drawing.child_at.Goals as goal

inside : (t : Tree) (id slot : ℕ) (n : Node) → slice_get (walk t) id ≡ Some n →
    IfSome (slice_get (walk t) id) (λ m. slot < length m.ports) → slot < length n.ports
inside t id slot n at h = subst (λ o. IfSome o (λ (m : Node). slot < length m.ports)) at h

pub returns-then-id-len-clause-child : goal.returns-then-id-len-clause-child
returns-then-id-len-clause-child c =
    no_node c.args.tree.now c.args.id c.args.slot (omega (arith, c.len.ensures.value, c.if-id-len.true))

pub returns-in-Down-clause-child : goal.returns-in-Down-clause-child
returns-in-Down-clause-child c =
    let n = c.node.result.now in
    let z : n.ports ≡ c.as_slice.result.now = sym (ap (λ (m : Node). m.ports) c.behind-tree.view_is) ∙ sym c.as_slice.ensures.value in
    let d : slice_get n.ports c.args.slot ≡ Some Down =
    slice_get-get_or n.ports c.args.slot Absent (inside c.args.tree.now c.args.id c.args.slot n c.node.ensures c.requires)
    ∙ ap (λ ps. Some (get_or ps c.args.slot Absent)) z ∙ ap (λ p. Some p) c.in-Down.is in
    is_child c.args.tree.now c.args.id c.args.slot n c.far.ensures.end.of_node c.far.result c.node.ensures c.far.ensures.end.node d c.far.ensures.end.slot_end

pub returns-in-Down-clause-lower : goal.returns-in-Down-clause-lower
returns-in-Down-clause-lower c =
    let n = c.node.result.now in
    let z : n.ports ≡ c.as_slice.result.now = sym (ap (λ (m : Node). m.ports) c.behind-tree.view_is) ∙ sym c.as_slice.ensures.value in
    let d : slice_get n.ports c.args.slot ≡ Some Down =
    slice_get-get_or n.ports c.args.slot Absent (inside c.args.tree.now c.args.id c.args.slot n c.node.ensures c.requires)
    ∙ ap (λ ps. Some (get_or ps c.args.slot Absent)) z ∙ ap (λ p. Some p) c.in-Down.is in
    child_lower c.args.tree.now c.args.id c.args.slot n c.far.ensures.end.of_node c.far.result c.len.ensures.valid c.node.ensures c.far.ensures.end.node d c.far.ensures.end.slot_end

pub returns-in_default : goal.returns-in_default
returns-in_default c =
    let n = c.node.result.now in
    let z : n.ports ≡ c.as_slice.result.now = sym (ap (λ (m : Node). m.ports) c.behind-tree.view_is) ∙ sym c.as_slice.ensures.value in
    let d : slice_get n.ports c.args.slot ≡ Some (get_or c.as_slice.result.now c.args.slot Absent) =
    slice_get-get_or n.ports c.args.slot Absent (inside c.args.tree.now c.args.id c.args.slot n c.node.ensures c.requires)
    ∙ ap (λ ps. Some (get_or ps c.args.slot Absent)) z in
    record {
      child = no_child c.args.tree.now c.args.id c.args.slot n (get_or c.as_slice.result.now c.args.slot Absent) c.node.ensures d c.in_default.not-Down;
      lower = tt;
    }
