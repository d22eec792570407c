use Rattle.std.proofs.Common.{append_assoc}
use Rattle.reset_log.proofs.values.put_head.Goals as goal

pub returns : goal.returns
returns c =
    simp (c.in_ok-put_local.ensures, c.in_ok-number_member.ensures, c.in_ok-put_micros-2.ensures, c.in_ok-put_micros.ensures, c.in_ok-put_name.ensures, c.from.ensures, c.since-after.ensures, c.missing-missing.ensures, append_assoc)
