use Rattle.nosy_dump.specs.Texts.{length_text}
use Rattle.nosy_dump.proofs.Joined.{three}
use Rattle.nosy_dump.proofs.texts.put_length.Goals as goal

pub returns : goal.returns
unfolding length_text
returns c =
    three _ _ _ _ _ _ _ c.in_ok-put_field.ensures (rw c.from.ensures at c.in_ok-put_field-2.ensures) c.in_ok-extend_from_slice.ensures.items
