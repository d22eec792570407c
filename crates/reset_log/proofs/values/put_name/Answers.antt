use Rattle.std.proofs.Common.{append_assoc}
use Rattle.reset_log.proofs.values.put_name.Goals as goal

pub returns : goal.returns
returns c =
    simp (c.in_ok-number_member-2.ensures, c.in_ok-put_card.ensures, c.in_ok-key.ensures, c.in_ok-number_member.ensures, c.from.ensures, append_assoc)
