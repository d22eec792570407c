-- What is so of self identify holds in every world that comes of a power-on world.
use Rattle.std.proofs.Common.{ℕ}
use Rattle.outcomes.proofs.Common.{CableWorld, ComesOfPowerOn, IsLawful, HoldSchedule, quiet_after, IsIdentifying}
use Rattle.convergence.specs.Kept.{IsKept}
use Rattle.convergence.proofs.Lemmas.{kept, kept-quiet}
use Rattle.outcomes.proofs.identify.IdentifyingTurn.{turn-identifying}
use Rattle.outcomes.proofs.identify.IdentifyingActs.{act-identifying, hold-identifying, power-on-identifying}

pub identifying-kept : IsKept IsIdentifying
identifying-kept = kept IsIdentifying power-on-identifying turn-identifying hold-identifying act-identifying

pub comes-identifying : (w : CableWorld) → ComesOfPowerOn w → IsIdentifying w
comes-identifying = identifying-kept.reached

pub quiet-identifying :
    (hs : HoldSchedule) (k : ℕ) (w : CableWorld) → IsLawful w → IsIdentifying w →
    IsIdentifying (quiet_after hs k w)
quiet-identifying = kept-quiet IsIdentifying identifying-kept
