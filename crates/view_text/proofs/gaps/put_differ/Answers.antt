use Rattle.std.proofs.Common.{append_assoc}
use Rattle.view_text.specs.Drawing.{differ_line}
use Rattle.view_text.proofs.gaps.put_differ.Goals as goal

pub returns : goal.returns
unfolding differ_line
returns c =
    simp (c.in_ok-extend_from_slice-2.ensures.items, c.in_ok-put_others.ensures, c.in_ok-extend_from_slice.ensures.items, c.in_ok-put_field.ensures, c.from.ensures, append_assoc)
