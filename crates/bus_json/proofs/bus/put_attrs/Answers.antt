use Rattle.std.proofs.Common.{append_assoc}
use Rattle.bus_json.proofs.bus.put_attrs.Goals as goal

pub returns : goal.returns
returns c =
    simp (c.in_ok-truth_member-3.ensures, c.in_ok-number_member-3.ensures, c.in_ok-truth_member-2.ensures, c.in_ok-number_member-2.ensures, c.in_ok-number_member.ensures, c.in_ok-truth_member.ensures, c.from-3.ensures, c.from-2.ensures, c.from.ensures, append_assoc)
