use Rattle.outcomes.proofs.identify.MarksKept.{one-awaited}
use Rattle.outcomes.proofs.identify.StaysIdentifying.{comes-identifying}
use Rattle.outcomes.proofs.laws.records_fit_self_identify.Goals as goal

pub returns-clause-marks : goal.returns-clause-marks
returns-clause-marks c = λ w k x r at. (comes-identifying w r).nodes k x at

pub returns-clause-one_awaited : goal.returns-clause-one_awaited
returns-clause-one_awaited c = λ w k p q x r at. one-awaited x.state ((comes-identifying w r).nodes k x at) p q
