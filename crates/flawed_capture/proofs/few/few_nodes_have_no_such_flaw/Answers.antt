use Rattle.flawed_capture.proofs.Counted.{few_have_none}
use Rattle.flawed_capture.proofs.few.few_nodes_have_no_such_flaw.Goals as goal

pub returns : goal.returns
returns c = few_have_none
