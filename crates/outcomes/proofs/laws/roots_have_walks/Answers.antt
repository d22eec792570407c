use Rattle.std.proofs.Common.{◌^◌, ◌<◌}
use Rattle.outcomes.proofs.Common.{HasCore}
use Rattle.outcomes.proofs.roots.RootWalk.{root-walk}
use Rattle.outcomes.proofs.settled.Components.{small-root}
use Rattle.outcomes.proofs.laws.roots_have_walks.Goals as goal

pub returns : goal.returns
returns c = λ w node set root r.
    let small : set < 2 ^ 63 = small-root c.components_exist.ensures w node set root r in
    let core : HasCore w.cabling set = c.cores_exist.ensures w.cabling set small in
    root-walk w r.lawful r.acyclic node set r.over core.core root r.component core.is small r.inside r.is_root
