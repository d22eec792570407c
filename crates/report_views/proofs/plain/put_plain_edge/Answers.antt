use Rattle.std.proofs.Common.{append_assoc}
use Rattle.report_views.specs.PlainGraph.{plain_edge}
use Rattle.report_views.proofs.plain.put_plain_edge.Goals as goal

pub returns : goal.returns
unfolding plain_edge
returns c =
    simp (c.in_ok-extend_from_slice.ensures.items, c.in_ok-put_field-2.ensures, c.in_ok-put_field.ensures, c.from.ensures, c.from-2.ensures, c.in_ok-put_edge_nodes.ensures, append_assoc)
