use Rattle.outcomes.proofs.Common.{comes-lawful}
use Rattle.outcomes.proofs.identify.ListsFollow as lists
use Rattle.outcomes.proofs.identify.StaysIdentifying.{comes-identifying}
use Rattle.outcomes.proofs.laws.lists_follow.Goals as goal

pub returns : goal.returns
returns c = λ w r. lists.lists-follow w (comes-lawful w r) (comes-identifying w r)
