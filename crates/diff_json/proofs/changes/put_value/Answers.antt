use Rattle.std.proofs.Common.{append_assoc}
use Rattle.diff_json.proofs.changes.put_value.Goals as goal

pub returns : goal.returns
returns c =
    simp (c.in_ok-close_object.ensures, c.in_ok-put_quality_member-2.ensures, c.in_ok-put_quality_member.ensures, c.in_ok-put_pair.ensures, c.in_ok-string_member.ensures, c.in_ok-open_object.ensures, c.quality_name.ensures, append_assoc)
