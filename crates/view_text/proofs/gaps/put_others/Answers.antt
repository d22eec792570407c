use Rattle.std.proofs.Common.{◌≡◌, ℕ, ◌+◌, Some, List, ◌++◌, drop, append_assoc, arith}
use Rattle.std.specs.Prelude.{slice_get}
use Rattle.self_id.specs.Node.{Node}
use Rattle.topology_stack.specs.Tree.{walk}
use Rattle.view_text.specs.Drawing.{other, others}
use Rattle.quad_lanes.proofs.Lemmas.{at_drop, item_at}
use Rattle.view_text.proofs.gaps.put_others.Goals as goal

step : (gap id found : ℕ) (ns : List Node) (n : Node) (old new whole : List ℕ) →
    slice_get ns id ≡ Some n → found ≡ n.attrs.gap → new ≡ old ++ other gap id found →
    old ++ others gap id (drop id ns) ≡ whole →
    new ++ others gap (id + 1) (drop (id + 1) ns) ≡ whole
step gap id found ns n old new whole at is e h =
    let k : old ++ (other gap id n.attrs.gap ++ others gap (id + 1) (drop (id + 1) ns)) ≡ whole = rw (at_drop ns id n at) at h in
    rw (e, is, append_assoc old (other gap id n.attrs.gap) (others gap (id + 1) (drop (id + 1) ns))) k

pub loop-id-preserved : goal.loop-id-preserved
loop-id-preserved c =
    let x = item_at (walk c.args.tree.now) c.loop-id.id (omega (arith, c.len-id-end.ensures.value)) in
    step c.args.gap c.loop-id.id c.gap_at.result (walk c.args.tree.now) x.0 c.loop-id.out.items c.put_other.new.out.items _ x.1 (c.gap_at.ensures x.0 x.1) c.in_ok-put_other.ensures c.loop-id.invariant
