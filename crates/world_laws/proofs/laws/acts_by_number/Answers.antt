use Rattle.world_laws.proofs.ActsByNumber.{acts-by-number}
use Rattle.world_laws.proofs.laws.acts_by_number.Goals as goal

pub returns : goal.returns
returns c = acts-by-number
