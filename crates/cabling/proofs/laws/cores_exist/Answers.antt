use Rattle.cabling.proofs.Existing.{core_exists}
use Rattle.cabling.proofs.laws.cores_exist.Goals as goal

pub returns : goal.returns
returns c = λ c set small. core_exists c set small
