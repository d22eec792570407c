use Rattle.convergence.proofs.AfterTurns.{come-through}
use Rattle.convergence.proofs.laws.levels_come_through.Goals as goal

pub returns : goal.returns
returns c = come-through
