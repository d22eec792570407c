use Rattle.std.proofs.Common.{◌≡◌, ◌∙◌, ℕ, ◌+◌, ◌-◌, ◌<◌, Option, Some, List, [], ◌++◌, length, drop, append_assoc, sym, arith}
use Rattle.std.specs.Prelude.{slice_get, slice_index, slice_index_or}
use Rattle.std.proofs.lemmas.List.{get_or_default}
use Rattle.self_id.specs.Node.{Node}
use Rattle.topology_stack.specs.Tree.{walk}
use Rattle.view_text.specs.NamedGraph.{named_node, named_nodes}
use Rattle.quad_lanes.proofs.Lemmas.{at_drop}
use Rattle.view_text.proofs.named.put_named_nodes.Goals as goal

step : (names : List (List ℕ)) (numbers : List ℕ) (id root last : ℕ) (irm : Option ℕ) (ns : List Node) (n : Node) (name : List ℕ)
    (number : ℕ) (old new whole : List ℕ) → slice_get ns id ≡ Some n → slice_index_or names id [] ≡ name →
    slice_index numbers id ≡ number → root ≡ last → new ≡ old ++ named_node name number id n root irm →
    old ++ named_nodes names numbers id (drop id ns) last irm ≡ whole →
    new ++ named_nodes names numbers (id + 1) (drop (id + 1) ns) last irm ≡ whole
step names numbers id root last irm ns n name number old new whole at called counted is e h =
    let more = named_nodes names numbers (id + 1) (drop (id + 1) ns) last irm in
    let k : old ++ (named_node name number id n last irm ++ more) ≡ whole = rw (at_drop ns id n at, called, counted) at h in
    rw (e, is, append_assoc old (named_node name number id n last irm) more) k

pub loop-id-preserved : goal.loop-id-preserved
loop-id-preserved c =
    let within : c.loop-id.id < length c.args.names.now =
    omega (arith, c.loop-id-test.true, c.len-id-end.ensures.value, c.requires) in
    step c.args.names.now c.args.numbers.now c.loop-id.id c.root.result (length (walk c.args.tree.now) - 1) c.elect-irm.result (walk c.args.tree.now) c.node.result.now
    c.index-names-id.result c.number_at-number.result c.loop-id.out.items c.put_named_node.new.out.items _ c.node.ensures
    (get_or_default c.args.names.now c.loop-id.id [] _ within ∙ sym c.index-names-id.is)
    (sym c.number_at-number.ensures) (omega (arith, c.root.ensures)) c.in_ok-put_named_node.ensures c.loop-id.invariant
