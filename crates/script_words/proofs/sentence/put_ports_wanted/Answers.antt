use Rattle.script_words.specs.Sentence.{ports_wanted}
use Rattle.script_words.proofs.sentence.put_ports_wanted.Goals as goal
use Rattle.quad_lanes.proofs.Lemmas.{four}

pub returns : goal.returns
unfolding ports_wanted
returns c =
    four _ _ _ _ _ _ _ _ _ c.in_ok-extend_from_slice.ensures.items c.in_ok-extend_from_slice-2.ensures.items
    (rw c.from.ensures at c.in_ok-put_field.ensures) c.in_ok-extend_from_slice-3.ensures.items
