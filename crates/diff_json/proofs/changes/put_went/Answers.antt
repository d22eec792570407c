use Rattle.std.proofs.Common.{append_assoc}
use Rattle.diff_json.proofs.changes.put_went.Goals as goal

pub returns : goal.returns
returns c =
    simp (c.in_ok-close_object.ensures, c.in_ok-put_place_member.ensures, c.in_ok-number_member.ensures, c.from.ensures, c.in_ok-string_member.ensures, c.in_ok-open_object.ensures, append_assoc)
