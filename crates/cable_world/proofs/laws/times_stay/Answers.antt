use Rattle.cable_world.proofs.StaysLawful.{times-stay}
use Rattle.cable_world.proofs.laws.times_stay.Goals as goal

pub returns : goal.returns
returns c = times-stay
