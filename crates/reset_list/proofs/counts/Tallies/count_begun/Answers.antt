use Rattle.std.proofs.Common.{◌≡◌, ℕ, ◌+◌, Bool, Some, List, drop, arith}
use Rattle.std.specs.Prelude.{slice_get}
use Rattle.self_id.specs.Node.{Node}
use Rattle.topology_stack.specs.Tree.{walk}
use Rattle.reset_list.specs.declared.counts.Tally.{Tally}
use Rattle.reset_list.specs.Counts.{tallied_if, tallied}
use Rattle.quad_lanes.proofs.Lemmas.{at_drop, item_at}
use Rattle.reset_list.proofs.counts.Tallies.count_begun.Goals as goal

step : (card id : ℕ) (flag : Bool) (ns : List Node) (n : Node) (old new whole : List Tally) →
    slice_get ns id ≡ Some n → flag ≡ n.attrs.initiated → new ≡ tallied_if flag card id old →
    tallied card id (drop id ns) old ≡ whole → tallied card (id + 1) (drop (id + 1) ns) new ≡ whole
step card id flag ns n old new whole at is e h =
    let k : tallied card (id + 1) (drop (id + 1) ns) (tallied_if n.attrs.initiated card id old) ≡ whole = rw (at_drop ns id n at) at h in
    rw (e, is) k

pub loop-id-preserved : goal.loop-id-preserved
loop-id-preserved c =
    let x = item_at (walk c.args.tree.now) c.loop-id.id (omega (arith, c.len-id-end.ensures.value)) in
    step c.args.card c.loop-id.id c.initiated.result (walk c.args.tree.now) x.0 c.loop-id.self c.add_if.new.self _ x.1 (c.initiated.ensures x.0 x.1) c.in_ok-add_if.ensures c.loop-id.invariant
