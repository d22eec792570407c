use Rattle.outcomes.proofs.Common.{comes-lawful, comes-acyclic}
use Rattle.outcomes.proofs.identify.Holders.{one-holder}
use Rattle.outcomes.proofs.identify.StaysIdentifying.{comes-identifying}
use Rattle.outcomes.proofs.laws.self_identify_goes_on.Goals as goal

pub returns : goal.returns
returns c = λ w member set late u r is all inside at unready.
    one-holder w (comes-lawful w r) (comes-identifying w r) set is.closed all (comes-acyclic w r) member is late u inside at unready
