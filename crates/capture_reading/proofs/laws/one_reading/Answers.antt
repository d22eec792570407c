use Rattle.capture_reading.proofs.OneReading.{ReadsBack, OneAnswer, some_reading, one_tree, apart, one_fault}
use Rattle.capture_reading.proofs.laws.one_reading.Goals as goal

pub returns : goal.returns
returns c =
    let back : ReadsBack = record {
      whole = c.capture_is_read_back.ensures.whole;
      good = c.capture_is_read_back.ensures.good;
      same = c.capture_is_read_back.ensures.same;
      all = c.good_pairs_are_a_capture.ensures;
    } in
    let lists : OneAnswer = record {
      some = c.one_answer.ensures.some;
      trees = c.one_tree.ensures;
      tree = c.one_answer.ensures.tree;
      fault = c.one_answer.ensures.fault;
    } in
    record {
      some = some_reading back lists;
      tree = one_tree back lists;
      apart = apart back lists;
      fault = one_fault back lists;
    }
