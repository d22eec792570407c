use Rattle.world_laws.proofs.OnePair.{stay-alone, alone-by-then}
use Rattle.world_laws.proofs.laws.rivals_are_alone.Goals as goal

pub returns-clause-once_over : goal.returns-clause-once_over
returns-clause-once_over c = stay-alone

pub returns-clause-after_turns : goal.returns-clause-after_turns
returns-clause-after_turns c = alone-by-then
