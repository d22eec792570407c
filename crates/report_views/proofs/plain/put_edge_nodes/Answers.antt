use Rattle.std.proofs.Common.{append_assoc}
use Rattle.report_views.specs.PlainGraph.{edge_nodes}
use Rattle.report_views.proofs.plain.put_edge_nodes.Goals as goal

pub returns : goal.returns
unfolding edge_nodes
returns c =
    simp (c.in_ok-put_field-2.ensures, c.in_ok-put_field.ensures, c.from.ensures, c.from-2.ensures, append_assoc)
