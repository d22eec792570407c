use Rattle.settle.proofs.SomeWalk.{some-walk}
use Rattle.settle.proofs.laws.walks_exist.Goals as goal

pub returns : goal.returns
returns c = some-walk c.components_exist.ensures
