use Rattle.std.proofs.Common.{append_assoc}
use Rattle.reset_log.specs.Texts.{lacking}
use Rattle.reset_log.proofs.heads.put_lacking.Goals as goal

pub returns : goal.returns
unfolding lacking
returns c =
    simp (c.in_ok-extend_from_slice.ensures.items, c.in_ok-put_field.ensures, c.in_ok-put_head.ensures, c.from.ensures, append_assoc)
