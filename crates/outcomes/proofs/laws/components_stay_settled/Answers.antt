use Rattle.outcomes.proofs.Common.{comes-lawful}
use Rattle.outcomes.proofs.settled.Components.{Part, part-of}
use Rattle.outcomes.proofs.settled.StaySettled.{stays-settled}
use Rattle.outcomes.proofs.laws.components_stay_settled.Goals as goal

pub returns : goal.returns
returns c = λ holds w v k more node set r quiet rests there comp.
    let exist = c.components_exist.ensures in
    let p : Part w = part-of exist c.cores_exist.ensures w (comes-lawful w r) node set there comp in
    stays-settled holds w r p k quiet v more rests
