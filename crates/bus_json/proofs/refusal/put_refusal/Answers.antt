use Rattle.std.proofs.Common.{append_assoc}
use Rattle.bus_json.proofs.refusal.put_refusal.Goals as goal

pub returns : goal.returns
returns c =
    simp (c.in_ok-close_object.ensures, c.in_ok-put_counts.ensures, c.in_ok-string_member.ensures, c.in_ok-number_member.ensures, c.in_ok-open_object.ensures, c.in_ok-key.ensures, c.refusal_of-refusal.ensures.pair, c.refusal_of-refusal.ensures.kind, c.refusal_of-refusal.ensures.counts, append_assoc)
