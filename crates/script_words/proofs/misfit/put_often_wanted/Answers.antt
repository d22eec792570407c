use Rattle.std.proofs.Common.{append_assoc, refl}
use Rattle.script_words.specs.Sentence.{often_wanted}
use Rattle.script_words.proofs.misfit.put_often_wanted.Goals as goal

pub returns : goal.returns
unfolding often_wanted
returns c =
    rw (c.in_ok-extend_from_slice.ensures.items, c.in_ok-put_field-2.ensures, c.in_ok-put_field.ensures, c.from.ensures, c.from-2.ensures, append_assoc, append_assoc) refl
