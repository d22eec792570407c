use Rattle.cable_world.proofs.running.Still.{still-turns}
use Rattle.cable_world.proofs.laws.still_turns_pass.Goals as goal

pub returns : goal.returns
returns c = still-turns
