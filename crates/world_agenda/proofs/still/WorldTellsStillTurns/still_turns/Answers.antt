use Rattle.world_agenda.proofs.Ahead.{none-still}
use Rattle.world_agenda.proofs.still.WorldTellsStillTurns.still_turns.Goals as goal

pub returns-clause-still : goal.returns-clause-still
returns-clause-still g c = none-still _
