use Rattle.convergence.proofs.ranks.StaysAcyclic.{acyclic-kept}
use Rattle.convergence.proofs.laws.worlds_stay_acyclic.Goals as goal

pub returns : goal.returns
returns c = acyclic-kept
