use Rattle.script_made.proofs.MadeCommands.{made_is_read, made_is_split}
use Rattle.script_made.proofs.laws.made_is_read.Goals as goal

pub returns-clause-read : goal.returns-clause-read
returns-clause-read c = made_is_read

pub returns-clause-split : goal.returns-clause-split
returns-clause-split c = made_is_split
