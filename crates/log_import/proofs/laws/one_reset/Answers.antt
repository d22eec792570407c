use Rattle.log_import.proofs.OneReset.{OneReading, one_answer}
use Rattle.log_import.proofs.laws.one_reset.Goals as goal

pub returns : goal.returns
returns c =
    let one : OneReading = record {
      tree = c.one_reading.ensures.tree;
      apart = c.one_reading.ensures.apart;
      fault = c.one_reading.ensures.fault;
    } in
    one_answer one
