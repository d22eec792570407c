use Rattle.std.proofs.Common.{append_assoc}
use Rattle.reset_log.specs.Texts.{cut_off}
use Rattle.reset_log.proofs.heads.put_cut_off.Goals as goal

pub returns : goal.returns
unfolding cut_off
returns c =
    simp (c.in_ok-extend_from_slice.ensures.items, c.in_ok-put_field.ensures, c.in_ok-put_name.ensures, c.from.ensures, append_assoc)
