use Rattle.world_laws.proofs.LoopMilestone.{out-once-done, out-by-then}
use Rattle.world_laws.proofs.laws.loops_are_out.Goals as goal

pub returns-clause-once_done : goal.returns-clause-once_done
returns-clause-once_done c = out-once-done

pub returns-clause-reached : goal.returns-clause-reached
returns-clause-reached c = out-by-then
