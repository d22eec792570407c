use Rattle.std.proofs.Common.{append_assoc}
use Rattle.reset_log.proofs.values.put_begun.Goals as goal

pub returns : goal.returns
returns c =
    simp (c.in_ok-close_object-2.ensures, c.in_ok-close_object.ensures, c.in_ok-number_member-2.ensures, c.in_ok-number_member.ensures, c.from.ensures, c.in_ok-put_card.ensures, c.in_ok-key-2.ensures, c.in_ok-open_object.ensures, c.in_ok-key.ensures, append_assoc)
