use Rattle.log_import.proofs.Steps.{lost, said, is_garbled}
use Rattle.log_import.proofs.finder.Finder.take.Goals as goal

pub returns-in-Lost-clause-found : goal.returns-in-Lost-clause-found
returns-in-Lost-clause-found c = rw c.in-Lost.is (lost c.args.self.now.judge c.args.self.now.number)

pub returns-in-Said-clause-found : goal.returns-in-Said-clause-found
returns-in-Said-clause-found c = rw c.in-Said.is (said c.args.self.now.judge c.args.self.now.number _ _)

pub returns-in-Garbled-clause-found : goal.returns-in-Garbled-clause-found
returns-in-Garbled-clause-found c = rw c.in-Garbled.is (is_garbled c.args.self.now.judge c.args.self.now.number)

pub returns-in-Begins-clause-found : goal.returns-in-Begins-clause-found
returns-in-Begins-clause-found c = rw c.in-Begins.is c.begin.ensures.found
