use Rattle.script_words.specs.Column.{word_found}
use Rattle.script_words.proofs.column.put_word_found.Goals as goal
use Rattle.quad_lanes.proofs.Lemmas.{five}

pub returns : goal.returns
unfolding word_found
returns c =
    five _ _ _ _ _ _ _ _ _ _ _ c.in_ok-extend_from_slice.ensures.items c.in_ok-extend_from_slice-2.ensures.items
    c.in_ok-put_field.ensures (rw c.column.ensures at c.in_ok-put_field-2.ensures)
    c.in_ok-extend_from_slice-3.ensures.items
