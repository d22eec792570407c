use Rattle.std.proofs.Common.{append_assoc}
use Rattle.view_text.specs.Graph.{graph_head}
use Rattle.view_text.proofs.graph.put_graph_head.Goals as goal

pub returns : goal.returns
unfolding graph_head
returns c =
    simp (c.in_ok-extend_from_slice-2.ensures.items, c.in_ok-extend_from_slice.ensures.items, append_assoc)
