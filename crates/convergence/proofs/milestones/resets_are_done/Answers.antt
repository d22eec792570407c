use Rattle.convergence.proofs.turns.CalmTurns.{turn-done}
use Rattle.convergence.proofs.AfterTurns.{done-after}
use Rattle.convergence.proofs.resets.ResetsDone.{no-resets}
use Rattle.convergence.proofs.milestones.resets_are_done.Goals as goal

pub returns-clause-after : goal.returns-clause-after
returns-clause-after c = done-after

pub returns-clause-turn : goal.returns-clause-turn
returns-clause-turn c = turn-done

pub returns-clause-over : goal.returns-clause-over
returns-clause-over c = λ w l done a b. no-resets w a b l done
