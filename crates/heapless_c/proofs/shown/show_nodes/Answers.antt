use Rattle.std.proofs.Common.{◌≡◌, ◌+◌, ◌<◌, length, get_or, sym, ap, subst, ◌∙◌, arith, length-set}
use Rattle.std.specs.Prelude.{slice_get, Some}
use Rattle.std.proofs.lemmas.Option.{slice_get-get_or}
use Rattle.self_id.specs.Node.{Node, downs}
use Rattle.self_id.specs.Group.{group}
use Rattle.topology_stack.specs.Tree.{Tree, walk}
use Rattle.topology_stack.proofs.Lemmas.{kids_enough, length-children, length-parents}
use Rattle.c_records.specs.Shown.{IsNodeRecord}
use Rattle.c_records.proofs.Lemmas.{written, stays}
use Rattle.heapless_c.specs.Reading.{IsLinked, IsPlaced}
use Rattle.heapless_c.proofs.Walking.{inside, next_node, place_after, placed, same_tree}
use Rattle.heapless_c.proofs.shown.show_nodes.Goals as goal

pub node_in-node-requires-clause-inside : goal.node_in-node-requires-clause-inside
node_in-node-requires-clause-inside c =
    let t = c.requires.linked in
    let n = next_node c.args.standard c.args.quads.now c.args.links.now.parents.items c.args.links.now.children c.args.count c.loop-id.at c.loop-id.id t.0 t.1 t.2 (omega (arith, c.loop-id-test.true)) (c.loop-id.invariant.place t.0 t.2) in
    inside c.args.standard c.args.quads.now c.loop-id.at c.loop-id.id n.0 n.2

pub node_in-node-requires-clause-node : goal.node_in-node-requires-clause-node
node_in-node-requires-clause-node c =
    let t = c.requires.linked in
    let n = next_node c.args.standard c.args.quads.now c.args.links.now.parents.items c.args.links.now.children c.args.count c.loop-id.at c.loop-id.id t.0 t.1 t.2 (omega (arith, c.loop-id-test.true)) (c.loop-id.invariant.place t.0 t.2) in
    (n.0, n.2)

pub bounds-deref-id : goal.bounds-deref-id
bounds-deref-id c =
    let t = c.requires.linked in
    omega (arith, c.loop-id-test.true, t.1, length-parents t.0 (walk t.0) c.args.links.now.parents.items c.args.links.now.children t.2.stored, ap length c.deref.ensures.0)

pub of-requires : goal.of-requires
of-requires c =
    let t = c.requires.linked in
    omega (arith, c.loop-id-test.true, t.1, length-children t.0 (walk t.0) c.args.links.now.parents.items c.args.links.now.children t.2.stored)

pub node_record-requires : goal.node_record-requires
node_record-requires c =
    let t = c.requires.linked in
    let n = next_node c.args.standard c.args.quads.now c.args.links.now.parents.items c.args.links.now.children c.args.count c.loop-id.at c.loop-id.id t.0 t.1 t.2 (omega (arith, c.loop-id-test.true)) (c.loop-id.invariant.place t.0 t.2) in
    let same : c.node_in-node.result.0 ≡ n.0 = c.node_in-node.ensures.node n.0 n.2 in
    kids_enough t.0 (walk t.0) c.args.links.now.parents.items c.args.links.now.children c.loop-id.id n.0 c.of.result.now t.2.stored n.1 c.of.ensures
    ∙ ap (λ (m : Node). downs m.ports) (sym same)

pub loop-id-preserved : goal.loop-id-preserved
loop-id-preserved c =
    let lt : c.loop-id.id < c.args.count = omega (arith, c.loop-id-test.true) in
    let many : (t : Tree) → IsLinked c.args.standard c.args.quads.now c.args.links.now.parents.items c.args.links.now.children t → c.args.count ≡ length (walk t) =
    λ t linked. c.requires.linked.1 ∙ ap (λ (u : Tree). length (walk u)) (same_tree c.args.standard c.args.quads.now _ _ _ _ c.requires.linked.0 t c.requires.linked.2 linked) in
    let small : (t : Tree) → IsLinked c.args.standard c.args.quads.now c.args.links.now.parents.items c.args.links.now.children t → c.loop-id.id < length c.args.links.now.parents.items =
    λ t linked. omega (arith, lt, many t linked, length-parents t (walk t) c.args.links.now.parents.items c.args.links.now.children linked.stored) in
    record {
      place = λ t linked.
          let n = next_node c.args.standard c.args.quads.now c.args.links.now.parents.items c.args.links.now.children c.args.count c.loop-id.at c.loop-id.id t (many t linked) linked lt (c.loop-id.invariant.place t linked) in
          let same : c.node_in-node.result.0 ≡ n.0 = c.node_in-node.ensures.node n.0 n.2 in
          place_after t c.loop-id.at c.node_in-node.result.1 c.loop-id.id n.0 (omega (arith, lt, many t linked)) n.1 (c.loop-id.invariant.place t linked)
          (c.node_in-node.ensures.place ∙ ap (λ (m : Node). c.loop-id.at + length (group m c.loop-id.id)) same);
      room = length-set c.loop-id.nodes c.loop-id.id c.node_record.result ∙ c.loop-id.invariant.room;
      below = λ t linked.
          let n = next_node c.args.standard c.args.quads.now c.args.links.now.parents.items c.args.links.now.children c.args.count c.loop-id.at c.loop-id.id t (many t linked) linked lt (c.loop-id.invariant.place t linked) in
          let same : c.node_in-node.result.0 ≡ n.0 = c.node_in-node.ensures.node n.0 n.2 in
          let parent : slice_get c.args.links.now.parents.items c.loop-id.id ≡ Some (get_or c.deref.result.now c.loop-id.id 0) = rw c.deref.ensures.0 (slice_get-get_or c.args.links.now.parents.items c.loop-id.id 0 (small t linked)) in
          let here : IsPlaced t c.loop-id.id c.node_in-node.result.0 (get_or c.deref.result.now c.loop-id.id 0) c.of.result.now =
          subst (λ (m : Node). IsPlaced t c.loop-id.id m (get_or c.deref.result.now c.loop-id.id 0) c.of.result.now) (sym same)
          (placed c.args.standard c.args.quads.now c.args.links.now.parents.items c.args.links.now.children t c.loop-id.id n.0 (get_or c.deref.result.now c.loop-id.id 0) c.of.result.now linked n.1 parent c.of.ensures) in
          written (λ k r. IsNodeRecord t k r) c.loop-id.nodes c.loop-id.id c.node_record.result (omega (arith, lt, c.requires.room, c.loop-id.invariant.room)) (c.loop-id.invariant.below t linked) (c.node_record.ensures t here);
      above = stays c.loop-id.nodes c.args.nodes.now c.loop-id.id c.node_record.result c.loop-id.invariant.above;
    }

pub returns : goal.returns
returns c = λ t linked.
    let many : c.args.count ≡ length (walk t) = c.requires.linked.1 ∙ ap (λ (u : Tree). length (walk u)) (same_tree c.args.standard c.args.quads.now _ _ _ _ c.requires.linked.0 t c.requires.linked.2 linked) in
    record {
      room = c.loop-id.invariant.room;
      nodes = λ id d lt. c.loop-id.invariant.below t linked id d (omega (arith, lt, many, c.loop-id-test.false));
      rest = λ id d le. c.loop-id.invariant.above id d (omega (arith, le, many, c.loop-id-test.false, c.loop-id.auto.id-end));
    }
