use Rattle.convergence.proofs.resets.ResetsOver.{resets-over}
use Rattle.convergence.proofs.milestones.resets_are_over.Goals as goal

pub returns : goal.returns
returns c = λ holds w k l late. resets-over holds w l k late
