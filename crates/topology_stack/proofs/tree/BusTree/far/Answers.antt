use Rattle.std.proofs.Common.{◌≡◌, ◌<◌, length, get_or, Some, refl, sym, ap, ◌∙◌, arith}
use Rattle.std.specs.Prelude.{slice_get}
use Rattle.std.proofs.lemmas.Option.{slice_get_read, slice_get-get_or}
use Rattle.self_id.specs.Node.{Node, downs}
use Rattle.topology_stack.specs.Tree.{Tree, walk}
use Rattle.topology_stack.proofs.Ends.{far_is, length-parents, length-children, kids_enough, loose_at}
use Rattle.topology_stack.proofs.tree.BusTree.far.Goals as goal

pub bounds-deref-id : goal.bounds-deref-id
bounds-deref-id c = omega (arith, c.requires.id, length-parents _ _ _ _ c.self.invariant, ap length c.deref.ensures.0, ap length c.self.invariant.walk_is, ap (λ (t : Tree). length (walk t)) c.self.view_is)

pub of-requires : goal.of-requires
of-requires c = omega (arith, c.requires.id, length-children _ _ _ _ c.self.invariant, ap length c.self.invariant.walk_is, ap (λ (t : Tree). length (walk t)) c.self.view_is)

pub far_end-requires-clause-inside : goal.far_end-requires-clause-inside
far_end-requires-clause-inside c =
    let small : c.args.id < length c.self.inside.nodes.items = omega (arith, c.requires.id, ap length c.self.invariant.walk_is, ap (λ (t : Tree). length (walk t)) c.self.view_is) in
    let node = slice_get_read c.self.inside.nodes.items (length c.self.inside.nodes.items) c.args.id c.index.result.now refl small c.index.ensures in
    let same : slice_get (walk c.args.self.now) c.args.id ≡ Some c.index.result.now = rw (← c.self.view_is, ← c.self.invariant.walk_is) node in
    let short = rw same at c.requires.slot in
    omega (arith, short, ap length c.as_slice-ports.ensures.value, ap (λ (n : Node). length n.ports) c.behind-self.view_is)

pub far_end-requires-clause-children : goal.far_end-requires-clause-children
far_end-requires-clause-children c =
    let small : c.args.id < length c.self.inside.nodes.items = omega (arith, c.requires.id, ap length c.self.invariant.walk_is, ap (λ (t : Tree). length (walk t)) c.self.view_is) in
    let node = slice_get_read c.self.inside.nodes.items (length c.self.inside.nodes.items) c.args.id c.index.result.now refl small c.index.ensures in
    let ports = c.as_slice-ports.ensures.value ∙ ap (λ (n : Node). n.ports) c.behind-self.view_is in
    kids_enough _ _ _ _ c.args.id c.index.result.now c.of.result.now c.self.invariant node c.of.ensures ∙ ap downs (sym ports)

pub returns-clause-end : goal.returns-clause-end
returns-clause-end c =
    let small : c.args.id < length c.self.inside.nodes.items = omega (arith, c.requires.id, ap length c.self.invariant.walk_is, ap (λ (t : Tree). length (walk t)) c.self.view_is) in
    let parents = length-parents _ _ _ _ c.self.invariant in
    let node = slice_get_read c.self.inside.nodes.items (length c.self.inside.nodes.items) c.args.id c.index.result.now refl small c.index.ensures in
    let parent : slice_get c.self.inside.links.parents.items c.args.id
    ≡ Some (get_or c.deref.result.now c.args.id 0) =
    rw c.deref.ensures.0 (slice_get-get_or c.self.inside.links.parents.items c.args.id 0
    (omega (arith, parents))) in
    let ports = c.as_slice-ports.ensures.value ∙ ap (λ (n : Node). n.ports) c.behind-self.view_is in
    rw (← c.self.view_is) (far_is _ _ _ _ c.args.id c.args.slot c.index.result.now (get_or c.deref.result.now c.args.id 0) c.of.result.now c.far_end.result c.self.invariant node parent c.of.ensures
    (rw ports at c.far_end.ensures.end))

pub returns-clause-none : goal.returns-clause-none
returns-clause-none c =
    let small : c.args.id < length c.self.inside.nodes.items = omega (arith, c.requires.id, ap length c.self.invariant.walk_is, ap (λ (t : Tree). length (walk t)) c.self.view_is) in
    let node = slice_get_read c.self.inside.nodes.items (length c.self.inside.nodes.items) c.args.id c.index.result.now refl small c.index.ensures in
    let same : slice_get (walk c.args.self.now) c.args.id ≡ Some c.index.result.now = rw (← c.self.view_is, ← c.self.invariant.walk_is) node in
    loose_at _ (walk c.args.self.now) c.args.id c.args.slot c.index.result.now c.as_slice-ports.result.now same (c.as_slice-ports.ensures.value ∙ ap (λ (n : Node). n.ports) c.behind-self.view_is) c.far_end.ensures.none
