use Rattle.world_laws.proofs.LastChanges.{turns-note, acts-note}
use Rattle.world_laws.proofs.laws.changes_are_noted.Goals as goal

pub returns-clause-turns : goal.returns-clause-turns
returns-clause-turns c = turns-note

pub returns-clause-acts : goal.returns-clause-acts
returns-clause-acts c = acts-note
