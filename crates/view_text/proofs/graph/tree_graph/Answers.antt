use Rattle.std.proofs.Common.{◌≡◌, append_assoc}
use Rattle.view_text.specs.Graph.{graph}
use Rattle.view_text.proofs.GraphDot.{tree_dot}
use Rattle.view_text.proofs.graph.tree_graph.Goals as goal

pub returns-clause-dot : goal.returns-clause-dot
returns-clause-dot c =
    let e : c.extend_from_slice.new.self.items ≡ graph c.args.tree.now =
    simp (c.in_ok-extend_from_slice.ensures.items, c.in_ok-put_edges.ensures, c.deref.ensures.value, c.in_ok-list.ensures, c.in_ok-put_nodes.ensures, c.elect.ensures.value, c.in_ok-put_graph_head.ensures, c.new-out.ensures.items, append_assoc) in
    tree_dot c.args.tree.now c.extend_from_slice.new.self.items e
