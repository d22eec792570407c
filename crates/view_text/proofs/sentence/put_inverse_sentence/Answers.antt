use Rattle.view_text.specs.Sentence.{inverse_sentence}
use Rattle.view_text.proofs.sentence.put_inverse_sentence.Goals as goal
use Rattle.quad_lanes.proofs.Lemmas.{five}

pub returns : goal.returns
unfolding inverse_sentence
returns c =
    five _ _ _ _ _ _ _ _ _ _ _ c.in_ok-extend_from_slice.ensures.items c.in_ok-put_hex.ensures c.in_ok-extend_from_slice-2.ensures.items c.in_ok-put_hex-2.ensures c.in_ok-extend_from_slice-3.ensures.items
