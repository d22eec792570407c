use Rattle.std.proofs.Common.{◌≡◌, ℕ, ◌+◌, Option, Some, List, ◌++◌, drop, append_assoc, arith}
use Rattle.std.specs.Prelude.{slice_get}
use Rattle.self_id.specs.Node.{Node}
use Rattle.topology_stack.specs.Tree.{Tree, walk}
use Rattle.topology_stack.specs.Far.{ends}
use Rattle.speed_map.proofs.Lemmas.{length-ends_from}
use Rattle.view_text.specs.declared.cable.Cable.{Cable}
use Rattle.view_text.specs.Cable.{cables_of, cables_from, cables}
use Rattle.quad_lanes.proofs.Lemmas.{at_drop, item_at}
use Rattle.view_text.proofs.cable.cables.Goals as goal

step : (t : Tree) (id : ℕ) (ns : List Node) (ends : List (List (Option ℕ))) (n : Node) (es : List (Option ℕ)) (old new whole : List Cable) →
    slice_get ns id ≡ Some n → slice_get ends id ≡ Some es →
    new ≡ old ++ cables_of t id 0 n.ports es →
    old ++ cables_from t id (drop id ns) (drop id ends) ≡ whole → new ++ cables_from t (id + 1) (drop (id + 1) ns) (drop (id + 1) ends) ≡ whole
step t id ns ends n es old new whole a b e h =
    let k : old ++ (cables_of t id 0 n.ports es ++ cables_from t (id + 1) (drop (id + 1) ns) (drop (id + 1) ends)) ≡ whole = rw (at_drop ns id n a, at_drop ends id es b) at h in
    rw (e, append_assoc old (cables_of t id 0 n.ports es) (cables_from t (id + 1) (drop (id + 1) ns) (drop (id + 1) ends))) k

pub loop-id-preserved : goal.loop-id-preserved
loop-id-preserved c =
    let t = c.args.tree.now in
    let n = item_at (walk t) c.loop-id.id (omega (arith, c.len-id-end.ensures.value)) in
    let es = item_at (ends t) c.loop-id.id (omega (arith, c.len-id-end.ensures.value, length-ends_from 0 63 t)) in
    step t c.loop-id.id (walk t) (ends t) n.0 es.0 c.loop-id.list.items c.put_cables.new.list.items (cables t) n.1 es.1 (c.in_ok-put_cables.ensures n.0 es.0 n.1 es.1) c.loop-id.invariant
