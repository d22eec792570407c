use Rattle.trace_event.proofs.Spelled.{behind_dash}
use Rattle.trace_event.proofs.words.choice_at.Goals as goal

pub returns-in-Some-clause-only : goal.returns-in-Some-clause-only
returns-in-Some-clause-only c = λ o w next whole short ends. behind_dash o w c.in-Some.ensures.found whole short
