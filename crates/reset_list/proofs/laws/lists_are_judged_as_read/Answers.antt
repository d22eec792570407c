use Rattle.reset_list.proofs.AsBefore.{as_drawn}
use Rattle.reset_list.proofs.AsRead.{ReadBack, heard, refused}
use Rattle.reset_list.proofs.laws.lists_are_judged_as_read.Goals as goal

pub returns : goal.returns
returns c =
    let known : ReadBack = record {
      whole = c.capture_is_read_back.ensures.whole;
      good = c.capture_is_read_back.ensures.good;
      same = c.capture_is_read_back.ensures.same;
      all = c.good_pairs_are_a_capture.ensures;
    } in
    record { heard = heard known; refused = refused known; as_before = as_drawn }
