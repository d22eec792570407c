use Rattle.std.proofs.Common.{◌≡◌, ◌∙◌, ◌<◌, length, sym, refl, arith}
use Rattle.std.proofs.lemmas.Bool.{eqb-true, eqb-false}
use Rattle.std.proofs.lemmas.Result.{err_from_is_err_and}
use Rattle.topology_stack.proofs.Loop.{is_after_root, is_full, is_node_fault, is_end, ended_empty, ended_unrooted, ended_rooted, goes_round, takes, place_is, moves}
use Rattle.topology_stack.proofs.Lemmas.{is_refused, is_emitted}
use Rattle.topology_stack.proofs.Behind.{is_stopped, is_taken}
use Rattle.topology_stack.proofs.Joining.{kept_is, keeps, count_is, links_one_more}
use Rattle.topology_stack.proofs.reading.nodes_of.Goals as goal

pub returns-then-waiting-clause-refused : goal.returns-then-waiting-clause-refused
returns-then-waiting-clause-refused c = is_refused c.args.standard _ _ (is_after_root c.args.standard _ _ _ _ _ c.loop-at-test.true c.if-waiting.true c.loop-at.invariant.reading.reads)

pub returns-then-len-eq-MAX_NODES-clause-refused : goal.returns-then-len-eq-MAX_NODES-clause-refused
returns-then-len-eq-MAX_NODES-clause-refused c = is_refused c.args.standard _ _ (is_full c.args.standard _ _ _ _ _ c.loop-at-test.true c.if-waiting.false (omega (arith, c.len.ensures, c.if-len-eq-MAX_NODES.true)) c.loop-at.invariant.reading.reads)

pub returns-in_err-after-clause-refused : goal.returns-in_err-after-clause-refused
returns-in_err-after-clause-refused c =
    let room : length c.loop-at.nodes.items < 63 = omega (arith, c.len.ensures, c.if-len-eq-MAX_NODES.false, c.loop-at.invariant.reading.room) in
    let p = err_from_is_err_and c.from_residual-in_err-after.result c.from_residual-in_err-after.ensures.1 in
    rw (p.1, p.2) (is_stopped c.args.standard _ _ _ _ _ c.in_err-after.field-0.0 c.loop-at-test.true c.if-waiting.false room c.loop-at.invariant.reading.reads c.in_err-after.ensures.refused)

pub returns-in_err-waiting-clause-refused : goal.returns-in_err-waiting-clause-refused
returns-in_err-waiting-clause-refused c =
    let e : c.len-id.result ≡ length c.loop-at.nodes.items = omega (arith, c.len-id.ensures) in
    let room : length c.loop-at.nodes.items < 63 = omega (arith, c.len.ensures, c.if-len-eq-MAX_NODES.false, c.loop-at.invariant.reading.room) in
    let n = is_taken c.args.standard _ _ _ _ _ _ _ e c.in_ok-after.ensures.found c.index.ensures in
    let p = err_from_is_err_and c.from_residual-in_err-waiting.result c.from_residual-in_err-waiting.ensures.1 in
    rw (p.1, p.2) (is_refused c.args.standard _ _ (is_node_fault c.args.standard _ _ _ _ _ c.index.result.now c.in_err-waiting.field-0.0 c.loop-at-test.true c.if-waiting.false room c.loop-at.invariant.reading.reads
    (takes c.args.standard _ _ _ _ _ _ refl room n.stands) (sym c.in_err-waiting.ensures)))

pub loop-at-smaller : goal.loop-at-smaller
loop-at-smaller c =
    let h = c.in_ok-after.ensures.found in
    omega (arith, moves c.args.standard _ _ _ _ _ h.stands, h.stands.inside)

pub loop-at-preserved : goal.loop-at-preserved
loop-at-preserved c =
    let e : c.len-id.result ≡ length c.loop-at.nodes.items = omega (arith, c.len-id.ensures) in
    let room : length c.loop-at.nodes.items < 63 = omega (arith, c.len.ensures, c.if-len-eq-MAX_NODES.false, c.loop-at.invariant.reading.room) in
    let n = is_taken c.args.standard _ _ _ _ _ _ _ e c.in_ok-after.ensures.found c.index.ensures in
    let kept = kept_is _ _ c.index.result.now c.in_ok-waiting.waiting c.loop-at.roots c.loop-at.invariant.count (sym c.in_ok-waiting.ensures) in
    let k = keeps _ c.index.result.now c.loop-at.roots _ _ _ c.loop-at.invariant.links kept room in
    record {
      reading = rw n.behind (goes_round c.args.standard _ _ _ _ _ _ c.index.result.now c.in_ok-waiting.waiting c.loop-at-test.true c.if-waiting.false (omega arith) c.loop-at.invariant.reading
          (takes c.args.standard _ _ _ _ _ _ refl room n.stands) (place_is c.args.standard _ _ _ _ _ _ refl n.stands) n.stands.inside (sym c.in_ok-waiting.ensures));
      count = count_is _ _ c.index.result.now c.in_ok-waiting.waiting c.loop-at.roots c.join.new.self _ _ (sym c.in_ok-waiting.ensures) refl k.some c.join.ensures;
      links = rw n.behind (links_one_more _ c.index.result.now c.loop-at.roots _ _ _ _ _ _ c.loop-at.invariant.links kept
          (rw e at c.join.ensures) (rw c.latest.ensures at c.add.ensures.parents) (rw c.latest.ensures at c.add.ensures.children));
    }

pub returns-then-waiting-2-clause-found : goal.returns-then-waiting-2-clause-found
returns-then-waiting-2-clause-found c = is_emitted c.args.standard _ _ (is_end c.args.standard _ _ _ _ _ c.loop-at-test.false c.loop-at.invariant.reading.reads ∙ ended_rooted _ _ _ c.if-waiting-2.true)

pub returns-then-is_empty-clause-refused : goal.returns-then-is_empty-clause-refused
returns-then-is_empty-clause-refused c = is_refused c.args.standard _ _ (is_end c.args.standard _ _ _ _ _ c.loop-at-test.false c.loop-at.invariant.reading.reads ∙ ended_empty _ _ _ c.if-waiting-2.false (omega (arith, eqb-true _ _ (sym c.if-is_empty.ensures))))

pub returns-clause-refused : goal.returns-clause-refused
returns-clause-refused c = is_refused c.args.standard _ _ (is_end c.args.standard _ _ _ _ _ c.loop-at-test.false c.loop-at.invariant.reading.reads ∙ ended_unrooted _ _ _ c.if-waiting-2.false (omega (arith, eqb-false _ _ (sym c.if-is_empty.ensures))))
