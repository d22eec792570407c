use Rattle.convergence.proofs.coins.Winner.{unequal-won}
use Rattle.convergence.proofs.contention.long_waits_win.Goals as goal

pub returns : goal.returns
returns c = λ holds w k node set m n i reached. unequal-won holds w reached k node set m n i
