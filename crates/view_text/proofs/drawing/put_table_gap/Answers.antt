use Rattle.std.proofs.Common.{append_assoc}
use Rattle.view_text.specs.Drawing.{table_gap}
use Rattle.view_text.proofs.drawing.put_table_gap.Goals as goal

pub returns : goal.returns
unfolding table_gap
returns c =
    simp (c.in_ok-extend_from_slice.ensures.items, c.in_ok-put_field.ensures, c.from.ensures, c.gap_for.ensures.value, append_assoc)
