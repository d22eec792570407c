use Rattle.std.proofs.Common.{◌≡◌, ℕ, ◌+◌, ◌-◌, Option, Some, List, ◌++◌, length, drop, append_assoc, arith}
use Rattle.std.specs.Prelude.{slice_get}
use Rattle.self_id.specs.Node.{Node}
use Rattle.topology_stack.specs.Tree.{walk}
use Rattle.view_text.specs.Graph.{graph_node, graph_nodes}
use Rattle.quad_lanes.proofs.Lemmas.{at_drop}
use Rattle.view_text.proofs.graph.put_nodes.Goals as goal

step : (id root last : ℕ) (irm : Option ℕ) (ns : List Node) (n : Node) (old new whole : List ℕ) →
    slice_get ns id ≡ Some n → root ≡ last → new ≡ old ++ graph_node id n root irm →
    old ++ graph_nodes id (drop id ns) last irm ≡ whole →
    new ++ graph_nodes (id + 1) (drop (id + 1) ns) last irm ≡ whole
step id root last irm ns n old new whole at is e h =
    let k : old ++ (graph_node id n last irm ++ graph_nodes (id + 1) (drop (id + 1) ns) last irm) ≡ whole = rw (at_drop ns id n at) at h in
    rw (e, is, append_assoc old (graph_node id n last irm) (graph_nodes (id + 1) (drop (id + 1) ns) last irm)) k

pub loop-id-preserved : goal.loop-id-preserved
loop-id-preserved c =
    step c.loop-id.id c.root.result (length (walk c.args.tree.now) - 1) c.args.irm (walk c.args.tree.now) c.node.result.now c.loop-id.out.items c.put_node.new.out.items _ c.node.ensures (omega (arith, c.root.ensures)) c.in_ok-put_node.ensures
    c.loop-id.invariant
