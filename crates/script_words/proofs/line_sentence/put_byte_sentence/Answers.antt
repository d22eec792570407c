use Rattle.script_words.specs.LineSentence.{byte_sentence}
use Rattle.script_words.proofs.line_sentence.put_byte_sentence.Goals as goal
use Rattle.quad_lanes.proofs.Lemmas.{four}

pub returns : goal.returns
unfolding byte_sentence
returns c =
    four _ _ _ _ _ _ _ _ _ c.in_ok-extend_from_slice.ensures.items (rw c.from.ensures at c.in_ok-put_hex.ensures)
    c.in_ok-put_field.ensures c.in_ok-extend_from_slice-2.ensures.items
