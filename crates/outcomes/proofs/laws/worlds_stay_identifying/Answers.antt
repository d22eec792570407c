use Rattle.outcomes.proofs.identify.StaysIdentifying.{identifying-kept}
use Rattle.outcomes.proofs.laws.worlds_stay_identifying.Goals as goal

pub returns : goal.returns
returns c = identifying-kept
