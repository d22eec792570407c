use Rattle.std.proofs.Common.{◌≡◌, ◌∙◌, ◌<◌, [], ◌∷◌, ◌++◌, length, length-append, refl, arith, ap}
use Rattle.std.proofs.lemmas.Result.{err_from_is_err_and}
use Rattle.topology_stack.proofs.Lemmas.{count_is, ended_empty, ended_rooted, ended_unrooted, goes_round, is_after_root, is_emitted, is_end, is_full, is_group_fault, is_node_fault, is_refused, keeps, kept_is, links_one_more, moves, place_is, refuses, some_node, takes}
use Rattle.heapless_c.proofs.Joined.{later_highest, linked_tree}
use Rattle.heapless_c.proofs.reading.link_nodes.Goals as goal

pub returns-then-waiting-clause-refused : goal.returns-then-waiting-clause-refused
returns-then-waiting-clause-refused c = is_refused c.args.standard _ _ (is_after_root c.args.standard _ _ _ _ _ c.loop-at-test.true c.if-waiting.true c.loop-at.invariant.joining.reading.reads)

pub returns-then-nodes-eq-MAX_NODES-clause-refused : goal.returns-then-nodes-eq-MAX_NODES-clause-refused
returns-then-nodes-eq-MAX_NODES-clause-refused c = is_refused c.args.standard _ _ (is_full c.args.standard _ _ _ _ _ c.loop-at-test.true c.if-waiting.false (omega (arith, c.loop-at.invariant.count, c.if-nodes-eq-MAX_NODES.true)) c.loop-at.invariant.joining.reading.reads)

pub returns-in_err-node-clause-refused : goal.returns-in_err-node-clause-refused
returns-in_err-node-clause-refused c =
    let room : length c.loop-at.invariant.ns < 63 = omega (arith, c.loop-at.invariant.count, c.if-nodes-eq-MAX_NODES.false, c.loop-at.invariant.joining.reading.room) in
    let p = err_from_is_err_and c.from_residual.result c.from_residual.ensures.1 in
    let g = c.in_err-node.ensures.refused in
    rw (p.1, p.2, g.1) (is_refused c.args.standard _ _ (is_group_fault c.args.standard _ _ _ _ _ g.0 c.loop-at-test.true c.if-waiting.false room c.loop-at.invariant.joining.reading.reads
    (refuses c.args.standard _ _ _ _ _ c.loop-at.invariant.count room g.2)))

pub returns-in_err-waiting-clause-refused : goal.returns-in_err-waiting-clause-refused
returns-in_err-waiting-clause-refused c =
    let room : length c.loop-at.invariant.ns < 63 = omega (arith, c.loop-at.invariant.count, c.if-nodes-eq-MAX_NODES.false, c.loop-at.invariant.joining.reading.room) in
    let p = err_from_is_err_and c.from_residual-in_err-waiting.result c.from_residual-in_err-waiting.ensures.1 in
    rw (p.1, p.2) (is_refused c.args.standard _ _ (is_node_fault c.args.standard _ _ _ _ _ c.in_ok-node.node c.in_err-waiting.field-0.0 c.loop-at-test.true c.if-waiting.false room c.loop-at.invariant.joining.reading.reads
    (takes c.args.standard _ _ _ _ _ _ c.loop-at.invariant.count room c.in_ok-node.ensures.found) c.in_err-waiting.ensures))

pub loop-at-smaller : goal.loop-at-smaller
loop-at-smaller c = omega (arith, moves c.args.standard _ _ _ _ _ c.in_ok-node.ensures.found, c.in_ok-node.ensures.found.inside)

pub loop-at-preserved : goal.loop-at-preserved
loop-at-preserved c =
    let id : c.loop-at.nodes ≡ length c.loop-at.invariant.ns = c.loop-at.invariant.count in
    let room : length c.loop-at.invariant.ns < 63 = omega (arith, id, c.if-nodes-eq-MAX_NODES.false, c.loop-at.invariant.joining.reading.room) in
    let kept = kept_is _ _ c.in_ok-node.node _ c.loop-at.roots c.loop-at.invariant.joining.count c.in_ok-waiting.ensures in
    let k = keeps _ c.in_ok-node.node c.loop-at.roots _ _ _ c.loop-at.invariant.joining.links kept room in
    record {
      ns = c.loop-at.invariant.ns ++ c.in_ok-node.node ∷ [];
      joining = record {
        reading = goes_round c.args.standard _ _ _ _ _ _ c.in_ok-node.node _ c.loop-at-test.true c.if-waiting.false (omega (arith, id, c.if-nodes-eq-MAX_NODES.false)) c.loop-at.invariant.joining.reading
            (takes c.args.standard _ _ _ _ _ _ id room c.in_ok-node.ensures.found) (place_is c.args.standard _ _ _ _ _ _ id c.in_ok-node.ensures.found) c.in_ok-node.ensures.found.inside c.in_ok-waiting.ensures;
        count = count_is _ _ c.in_ok-node.node _ c.loop-at.roots c.join.new.self _ _ c.in_ok-waiting.ensures refl k.some c.join.ensures;
        links = links_one_more _ c.in_ok-node.node c.loop-at.roots _ _ _ _ _ _ c.loop-at.invariant.joining.links kept
            (rw id at c.join.ensures) (rw c.latest.ensures at c.add.ensures.parents) (rw c.latest.ensures at c.add.ensures.children);
      };
      count = omega (arith, id, length-append c.loop-at.invariant.ns (c.in_ok-node.node ∷ []));
      highest = later_highest c.loop-at.invariant.ns c.in_ok-node.node c.loop-at.nodes c.loop-at.manager c.later_manager-manager.result id c.loop-at.invariant.highest c.later_manager-manager.ensures;
    }

pub overflow_sub-result : goal.overflow_sub-result
overflow_sub-result c =
    let e = is_emitted c.args.standard _ _ (is_end c.args.standard _ _ _ _ _ c.loop-at-test.false c.loop-at.invariant.joining.reading.reads ∙ ended_rooted _ _ _ c.if-waiting-2.true) in
    omega (arith, c.loop-at.invariant.count, ap length e.2, some_node e.0)

pub returns-then-waiting-2-clause-found : goal.returns-then-waiting-2-clause-found
returns-then-waiting-2-clause-found c =
    linked_tree c.args.standard c.args.quads.now _ _ _ _ _ _ _ _ c.loop-at.invariant
    (is_emitted c.args.standard _ _ (is_end c.args.standard _ _ _ _ _ c.loop-at-test.false c.loop-at.invariant.joining.reading.reads ∙ ended_rooted _ _ _ c.if-waiting-2.true)) c.id_or_none.ensures

pub returns-then-nodes-eq0-clause-refused : goal.returns-then-nodes-eq0-clause-refused
returns-then-nodes-eq0-clause-refused c = is_refused c.args.standard _ _ (is_end c.args.standard _ _ _ _ _ c.loop-at-test.false c.loop-at.invariant.joining.reading.reads ∙ ended_empty _ _ _ c.if-waiting-2.false (omega (arith, c.loop-at.invariant.count, c.if-nodes-eq0.true)))

pub returns-else-nodes-eq0-clause-refused : goal.returns-else-nodes-eq0-clause-refused
returns-else-nodes-eq0-clause-refused c = is_refused c.args.standard _ _ (is_end c.args.standard _ _ _ _ _ c.loop-at-test.false c.loop-at.invariant.joining.reading.reads ∙ ended_unrooted _ _ _ c.if-waiting-2.false (omega (arith, c.loop-at.invariant.count, c.if-nodes-eq0.false)))
