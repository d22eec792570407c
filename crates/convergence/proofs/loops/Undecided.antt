-- After n * d quiet turns.
use Rattle.std.proofs.Common.{ℕ, ◌*◌, ◌≤◌, length}
use Rattle.convergence.proofs.Common.{CableWorld, ComesOfPowerOn, IsLawful, comes-lawful, quiet-lawful, HoldSchedule, quiet_after, IsAcyclic, ResetsAreOver}
use Rattle.convergence.specs.Roots.{IsUndecidedInLoops}
use Rattle.convergence.proofs.loops.Cores.{core-shows, one-root}
use Rattle.convergence.proofs.resets.ResetsOver.{resets-over}
use Rattle.convergence.proofs.ranks.StaysAcyclic.{comes-acyclic, quiet-acyclic}

pub after-turns :
    (hs : HoldSchedule) (w : CableWorld) (k : ℕ) → ComesOfPowerOn w → length w.nodes * w.delay ≤ k →
    IsUndecidedInLoops (quiet_after hs k w)
after-turns hs w k r late =
    let v : CableWorld = quiet_after hs k w in
    let l : IsLawful v = quiet-lawful hs k w (comes-lawful w r) in
    let c : IsAcyclic v = quiet-acyclic hs k w (comes-lawful w r) (comes-acyclic w r) in
    let over : ResetsAreOver v = resets-over hs w (comes-lawful w r) k late in
    record { loops = λ set core. core-shows v l set (λ a b y h. over a b y) c core; roots = λ node set. one-root v l set (λ a b y h. over a b y) node }
