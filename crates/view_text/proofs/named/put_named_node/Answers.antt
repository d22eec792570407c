use Rattle.std.proofs.Common.{append_assoc}
use Rattle.view_text.specs.NamedGraph.{named_node}
use Rattle.view_text.proofs.named.put_named_node.Goals as goal

pub returns : goal.returns
unfolding named_node
returns c =
    simp (c.in_ok-extend_from_slice-2.ensures.items, c.in_ok-put_irm_box.ensures, c.in_ok-put_root_box.ensures, c.in_ok-extend_from_slice.ensures.items, c.in_ok-put_label.ensures, c.in_ok-put_front.ensures, append_assoc)
