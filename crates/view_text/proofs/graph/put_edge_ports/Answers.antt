use Rattle.std.proofs.Common.{append_assoc}
use Rattle.view_text.specs.Graph.{edge_ports}
use Rattle.view_text.proofs.graph.put_edge_ports.Goals as goal

pub returns : goal.returns
unfolding edge_ports
returns c =
    simp (c.in_ok-extend_from_slice.ensures.items, c.in_ok-put_field-2.ensures, c.in_ok-put_field.ensures, c.from.ensures, c.from-2.ensures, append_assoc)
