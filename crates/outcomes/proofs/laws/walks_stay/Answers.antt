use Rattle.std.proofs.Common.{◌^◌, ◌<◌}
use Rattle.outcomes.proofs.Common.{HasCore}
use Rattle.outcomes.proofs.roots.Named.{same-walk}
use Rattle.outcomes.proofs.settled.Components.{small-root}
use Rattle.outcomes.proofs.laws.walks_stay.Goals as goal

pub returns : goal.returns
returns c = λ w v node set root t u r walk other.
    let small : set < 2 ^ 63 = small-root c.components_exist.ensures w node set root r in
    let core : HasCore w.cabling set = c.cores_exist.ensures w.cabling set small in
    same-walk w r.lawful r.acyclic node set r.over core.core root r.component core.is small r.inside r.is_root t walk v u other
