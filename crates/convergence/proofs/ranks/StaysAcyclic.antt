-- Every world that comes of a power-on world is acyclic.
use Rattle.std.proofs.Common.{ℕ, List}
use Rattle.convergence.proofs.Common.{CableWorld, ComesOfPowerOn, IsLawful, PlacedHold, HoldSchedule, with_holds, quiet_after, holds-kept, IsAcyclic}
use Rattle.convergence.specs.Kept.{IsKept}
use Rattle.convergence.proofs.turns.AlongRuns.{kept, kept-quiet}
use Rattle.convergence.proofs.ranks.RanksInActs.{power-on-acyclic, hold-acyclic, act-acyclic}
use Rattle.convergence.proofs.ranks.RanksInTurns.{turn-acyclic}

pub acyclic-kept : IsKept IsAcyclic
acyclic-kept = kept IsAcyclic power-on-acyclic turn-acyclic (λ end turns w none l. hold-acyclic end turns w) act-acyclic

pub comes-acyclic : (w : CableWorld) → ComesOfPowerOn w → IsAcyclic w
comes-acyclic = acyclic-kept.reached

pub holds-acyclic :
    (holds : List PlacedHold) (w : CableWorld) → IsLawful w → IsAcyclic w →
    IsAcyclic (with_holds holds w)
holds-acyclic = holds-kept IsAcyclic acyclic-kept.hold

pub quiet-acyclic :
    (hs : HoldSchedule) (k : ℕ) (w : CableWorld) → IsLawful w → IsAcyclic w →
    IsAcyclic (quiet_after hs k w)
quiet-acyclic = kept-quiet IsAcyclic acyclic-kept
