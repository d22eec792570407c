use Rattle.settle.proofs.ReadBack.{lists-read, lists-cables}
use Rattle.settle.proofs.laws.reports_are_read_back.Goals as goal

pub returns-clause-lists : goal.returns-clause-lists
returns-clause-lists c = lists-read

pub returns-clause-cables : goal.returns-clause-cables
returns-clause-cables c = lists-cables c.one_tree.ensures
