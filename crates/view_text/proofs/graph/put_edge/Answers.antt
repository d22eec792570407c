use Rattle.std.proofs.Common.{append_assoc}
use Rattle.view_text.proofs.graph.put_edge.Goals as goal

pub returns : goal.returns
returns c =
    simp (c.in_ok-put_edge_ports.ensures, c.in_ok-put_field.ensures, c.from.ensures, c.in_ok-extend_from_slice-2.ensures.items, c.in_ok-extend_from_slice.ensures.items, c.speed_word.ensures, c.in_ok-put_edge_ends.ensures, append_assoc)
