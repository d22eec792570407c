-- In a loop no node leaves T0, so that after the longest timeout there each reports that the configuration
-- timed out.
use Rattle.std.proofs.Common.{◌≡◌, ℕ, ◌+◌, ◌≤◌, true, slice_get}
use Rattle.port_state.specs.declared.signal.Phase.TheVariants.{TreeStart}
use Rattle.convergence.proofs.Common.{PortNode, CableWorld, IsLawful, some-of, some-at, quiet-lawful, HoldSchedule, quiet_after, IsAcyclic, ResetsAreOver, ResetsAreDone, LoopsAreReported}
use Rattle.convergence.proofs.loops.Cores.{core-shows}
use Rattle.convergence.proofs.resets.ResetsDone.{done-over}
use Rattle.convergence.proofs.ranks.StaysAcyclic.{quiet-acyclic}
use Rattle.convergence.specs.Turns.{slack}
use Rattle.convergence.proofs.trees.TreeStart.{done-at, start-reports}

pub loops-reported :
    (hs : HoldSchedule) (v : CableWorld) → IsLawful v → IsAcyclic v → ResetsAreDone v → (i : ℕ) →
    v.longest.timeout + 1 + slack v ≤ i →
    LoopsAreReported (quiet_after hs i v)
loops-reported hs v l c done i late set core k is h =
    let u : CableWorld = quiet_after hs i v in
    let m : IsLawful u = quiet-lawful hs i v l in
    let over : ResetsAreOver u = done-over u m (done-at hs v l done i) in
    let x = some-of (slice_get u.nodes k) _ (core-shows u m set (λ a b y h. over a b y) (quiet-acyclic hs i v l c) core k is h) in
    some-at (slice_get u.nodes k) x.0 (λ (y : PortNode). (y.state.view.phase ≡ TreeStart) × (y.state.view.timed_out ≡ true)) x.1
    (start-reports hs v l done i k late (record { node = x.0; at = x.1; early = x.2 }))
