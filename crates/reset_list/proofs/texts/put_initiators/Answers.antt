use Rattle.std.proofs.Common.{◌≡◌, ℕ, ◌+◌, Bool, Some, List, ◌++◌, drop, append_assoc, arith}
use Rattle.std.specs.Prelude.{slice_get}
use Rattle.self_id.specs.Node.{Node}
use Rattle.topology_stack.specs.Tree.{walk}
use Rattle.reset_list.specs.Texts.{initiator, initiators}
use Rattle.quad_lanes.proofs.Lemmas.{at_drop, item_at}
use Rattle.reset_list.proofs.texts.put_initiators.Goals as goal

step : (id : ℕ) (flag : Bool) (ns : List Node) (n : Node) (old new whole : List ℕ) →
    slice_get ns id ≡ Some n → flag ≡ n.attrs.initiated → new ≡ old ++ initiator id flag →
    old ++ initiators id (drop id ns) ≡ whole →
    new ++ initiators (id + 1) (drop (id + 1) ns) ≡ whole
step id flag ns n old new whole at is e h =
    let k : old ++ (initiator id n.attrs.initiated ++ initiators (id + 1) (drop (id + 1) ns)) ≡ whole = rw (at_drop ns id n at) at h in
    rw (e, is, append_assoc old (initiator id n.attrs.initiated) (initiators (id + 1) (drop (id + 1) ns))) k

pub loop-id-preserved : goal.loop-id-preserved
loop-id-preserved c =
    let x = item_at (walk c.args.tree.now) c.loop-id.id (omega (arith, c.len-id-end.ensures.value)) in
    step c.loop-id.id c.initiated.result (walk c.args.tree.now) x.0 c.loop-id.out.items c.put_initiator.new.out.items _ x.1 (c.initiated.ensures x.0 x.1) c.in_ok-put_initiator.ensures c.loop-id.invariant
