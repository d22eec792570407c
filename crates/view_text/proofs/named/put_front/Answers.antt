use Rattle.std.proofs.Common.{append_assoc}
use Rattle.view_text.specs.NamedGraph.{named_front}
use Rattle.view_text.proofs.named.put_front.Goals as goal

pub returns : goal.returns
unfolding named_front
returns c =
    simp (c.in_ok-extend_from_slice-3.ensures.items, c.in_ok-extend_from_slice-2.ensures.items, c.as_bytes.ensures.value, c.in_ok-extend_from_slice.ensures.items, c.in_ok-put_field.ensures, c.from.ensures, append_assoc)
