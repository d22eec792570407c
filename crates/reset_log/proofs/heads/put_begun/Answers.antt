use Rattle.std.proofs.Common.{append_assoc}
use Rattle.reset_log.specs.Texts.{begun}
use Rattle.reset_log.proofs.heads.put_begun.Goals as goal

pub returns : goal.returns
unfolding begun
returns c =
    simp (c.in_ok-put_field-2.ensures, c.in_ok-put_field.ensures, c.in_ok-put_card.ensures, c.from.ensures, append_assoc)
