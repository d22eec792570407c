use Rattle.std.proofs.Common.{append_assoc}
use Rattle.view_text.specs.Graph.{graph_node}
use Rattle.view_text.proofs.graph.put_node.Goals as goal

pub returns : goal.returns
unfolding graph_node
returns c =
    simp (c.in_ok-extend_from_slice-3.ensures.items, c.in_ok-put_irm_box.ensures, c.in_ok-put_root_box.ensures, c.in_ok-extend_from_slice-2.ensures.items, c.in_ok-put_label.ensures, c.in_ok-extend_from_slice.ensures.items, c.in_ok-put_field.ensures, c.from.ensures, append_assoc)
