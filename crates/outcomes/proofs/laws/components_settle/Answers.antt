use Rattle.outcomes.proofs.Common.{comes-lawful}
use Rattle.outcomes.proofs.settled.Components.{Part, part-of}
use Rattle.outcomes.proofs.settled.QuietTurns.{settles-at-last, done-at-last}
use Rattle.outcomes.proofs.settled.QuietRuns.{rests-settled}
use Rattle.outcomes.proofs.laws.components_settle.Goals as goal

pub returns-clause-settled : goal.returns-clause-settled
returns-clause-settled c = λ holds w k node set r there comp quiet.
    let exist = c.components_exist.ensures in
    let p : Part w = part-of exist c.cores_exist.ensures w (comes-lawful w r) node set there comp in
    settles-at-last holds w r p k quiet

pub returns-clause-runs : goal.returns-clause-runs
returns-clause-runs c = λ w v k node set r rests quiet there comp.
    let exist = c.components_exist.ensures in
    let p : Part w = part-of exist c.cores_exist.ensures w (comes-lawful w r) node set there comp in
    rests-settled w v k p r rests quiet

pub returns-clause-done : goal.returns-clause-done
returns-clause-done c = done-at-last
