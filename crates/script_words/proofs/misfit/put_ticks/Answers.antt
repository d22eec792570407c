use Rattle.std.proofs.Common.{append_assoc, refl}
use Rattle.script_words.specs.Sentence.{ticks}
use Rattle.script_words.proofs.misfit.put_ticks.Goals as goal

pub returns : goal.returns
unfolding ticks
returns c =
    rw (c.in_ok-extend_from_slice-2.ensures.items, c.in_ok-extend_from_slice.ensures.items, c.in_ok-put_field.ensures, c.from.ensures, append_assoc, append_assoc) refl
