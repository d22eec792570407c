use Rattle.std.proofs.Common.{append_assoc}
use Rattle.view_text.specs.Drawing.{more_words}
use Rattle.view_text.proofs.gaps.put_more_words.Goals as goal

pub returns : goal.returns
unfolding more_words
returns c =
    simp (c.in_ok-extend_from_slice.ensures.items, c.in_ok-put_field.ensures, c.from.ensures, append_assoc)
