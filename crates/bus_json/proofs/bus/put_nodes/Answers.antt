use Rattle.std.proofs.Common.{◌≡◌, ℕ, ◌+◌, Some, List, ◌++◌, drop, append_assoc, arith}
use Rattle.std.specs.Prelude.{slice_get}
use Rattle.self_id.specs.Node.{Node}
use Rattle.topology_stack.specs.Tree.{Tree, walk}
use Rattle.json.specs.Token.{Token}
use Rattle.json.specs.Tree.{json_tokens, items_tokens}
use Rattle.bus_json.specs.Bus.{node_value, node_items}
use Rattle.quad_lanes.proofs.Lemmas.{at_drop, item_at}
use Rattle.bus_json.proofs.bus.put_nodes.Goals as goal

step : (t : Tree) (names : List (List ℕ)) (id : ℕ) (ns : List Node) (n : Node) (old new whole : List Token) →
    slice_get ns id ≡ Some n → new ≡ old ++ json_tokens (node_value t id n (slice_get names id)) →
    old ++ items_tokens (node_items t names id (drop id ns)) ≡ whole →
    new ++ items_tokens (node_items t names (id + 1) (drop (id + 1) ns)) ≡ whole
step t names id ns n old new whole a e h =
    let rest = items_tokens (node_items t names (id + 1) (drop (id + 1) ns)) in
    let k : old ++ (json_tokens (node_value t id n (slice_get names id)) ++ rest) ≡ whole = rw (at_drop ns id n a) at h in
    rw (e, append_assoc old (json_tokens (node_value t id n (slice_get names id))) rest) k

pub loop-id-preserved : goal.loop-id-preserved
loop-id-preserved c =
    let w = walk c.args.tree.now in
    let n = item_at w c.loop-id.id (omega (arith, c.loop-id-test.true, c.len-id-end.ensures.value)) in
    step c.args.tree.now c.args.names.now c.loop-id.id w n.0 c.loop-id.out c.put_node.new.out _
    n.1 (c.in_ok-put_node.ensures n.0 n.1) c.loop-id.invariant
