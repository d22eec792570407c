use Rattle.nosy_dump.specs.Texts.{cut_text}
use Rattle.nosy_dump.proofs.Joined.{two}
use Rattle.nosy_dump.proofs.texts.put_cut.Goals as goal

pub returns : goal.returns
unfolding cut_text
returns c = two _ _ _ _ _ c.in_ok-put_field.ensures c.in_ok-extend_from_slice.ensures.items
