use Rattle.std.proofs.Common.{append_assoc}
use Rattle.view_text.specs.Pairs.{pair_quads}
use Rattle.view_text.proofs.pairs.put_quads.Goals as goal

pub returns : goal.returns
unfolding pair_quads
returns c =
    simp (c.in_ok-put_hex-2.ensures, c.in_ok-extend_from_slice-2.ensures.items, c.in_ok-put_hex.ensures, c.in_ok-extend_from_slice.ensures.items, c.in_ok-put_field.ensures, append_assoc)
