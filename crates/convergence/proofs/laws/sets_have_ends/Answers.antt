use Rattle.convergence.proofs.ranks.Ranks.{has-top, has-bottom}
use Rattle.convergence.proofs.laws.sets_have_ends.Goals as goal

pub returns-clause-top : goal.returns-clause-top
returns-clause-top c = λ w member k a some. has-top w a member k some

pub returns-clause-bottom : goal.returns-clause-bottom
returns-clause-bottom c = λ w member k a some. has-bottom w a member k some
