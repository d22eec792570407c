use Rattle.std.proofs.Common.{append_assoc}
use Rattle.view_text.specs.Graph.{edge_ends}
use Rattle.view_text.proofs.graph.put_edge_ends.Goals as goal

pub returns : goal.returns
unfolding edge_ends
returns c =
    simp (c.in_ok-put_field-2.ensures, c.in_ok-put_field.ensures, c.from.ensures, c.from-2.ensures, append_assoc)
