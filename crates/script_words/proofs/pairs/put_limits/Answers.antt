use Rattle.std.proofs.Common.{append_assoc}
use Rattle.script_words.proofs.pairs.put_limits.Goals as goal

pub returns-in_ok-extend_from_slice-in-Some-2 : goal.returns-in_ok-extend_from_slice-in-Some-2
returns-in_ok-extend_from_slice-in-Some-2 c =
    rw c.in-Some.is (simp (c.in_ok-extend_from_slice-in-Some-2.ensures.items, c.meaning_of.ensures, c.in_ok-put_field-in-Some-2.ensures, c.from-in-Some.ensures, c.in_ok-put_field-in-Some.ensures, c.from.ensures, c.in_ok-extend_from_slice-in-Some.ensures.items, append_assoc))
