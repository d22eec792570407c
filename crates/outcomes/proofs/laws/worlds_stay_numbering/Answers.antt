use Rattle.outcomes.proofs.settled.Numbering.{numbering-kept}
use Rattle.outcomes.proofs.laws.worlds_stay_numbering.Goals as goal

pub returns : goal.returns
returns c = numbering-kept
