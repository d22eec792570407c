use Rattle.capture_import.proofs.One.{one_list, named_apart, one_fault}
use Rattle.capture_import.proofs.laws.one_import.Goals as goal

pub returns-clause-list : goal.returns-clause-list
returns-clause-list c = one_list

pub returns-clause-apart : goal.returns-clause-apart
returns-clause-apart c = named_apart

pub returns-clause-fault : goal.returns-clause-fault
returns-clause-fault c = one_fault
