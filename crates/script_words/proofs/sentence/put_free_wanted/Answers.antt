use Rattle.std.proofs.Common.{append_assoc}
use Rattle.script_words.specs.Sentence.{free_wanted}
use Rattle.script_words.proofs.sentence.put_free_wanted.Goals as goal

pub returns : goal.returns
unfolding free_wanted
returns c =
    rw (← c.far.view_is) (simp (c.in_ok-extend_from_slice-3.ensures.items, c.in_ok-extend_from_slice-2.ensures.items, c.in_ok-extend_from_slice.ensures.items, c.in_ok-put_field.ensures, c.from.ensures, append_assoc))
