use Rattle.cabling.proofs.Existing.{component_exists}
use Rattle.cabling.proofs.laws.components_exist.Goals as goal

pub returns : goal.returns
returns c = λ c node is there. component_exists c node is there
