use Rattle.convergence.proofs.coins.StaysContested.{contested-kept}
use Rattle.convergence.proofs.contention.worlds_stay_contested.Goals as goal

pub returns : goal.returns
returns c = contested-kept
