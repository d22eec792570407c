-- Loops are out once the longest timeout is over after resets are done.
use Rattle.std.proofs.Common.{ℕ, zero, suc}
use Rattle.cable_world.specs.World.{CableWorld}
use Rattle.cable_world.specs.Quiet.{HoldSchedule, quiet_after}
use Rattle.cable_world.specs.Lawful.{IsLawful}
use Rattle.cable_world.proofs.Lemmas.{comes-lawful, quiet-lawful}
use Rattle.convergence.specs.Acyclic.{IsAcyclic}
use Rattle.convergence.specs.Milestones.{ResetsAreDone, ResetsAreOver}
use Rattle.convergence.proofs.Lemmas.{reported-after, comes-acyclic, quiet-acyclic, done-over, turn-done}
use Rattle.outcomes.specs.Identify.{IsIdentifying}
use Rattle.outcomes.proofs.Lemmas.{comes-identifying, quiet-identifying, shows-unnamed, loop-outcome}
use Rattle.world_laws.specs.LoopMilestone.{LoopsComeOutOnceDone, LoopsComeOutByThen}

-- quiet turns keep resets done
pub quiet-done :
    (hs : HoldSchedule) (k : ℕ) (w : CableWorld) → IsLawful w → ResetsAreDone w →
    ResetsAreDone (quiet_after hs k w)
unfolding quiet_after
quiet-done hs zero w l done = done
quiet-done hs (suc k) w l done = turn-done (quiet_after hs k w) (quiet-lawful hs k w l) (quiet-done hs k w l done)

pub out-once-done : LoopsComeOutOnceDone
out-once-done placed w k r done late node set core member comp is_core inside =
    let lawful : IsLawful w = comes-lawful w r in
    let v : CableWorld = quiet_after placed k w in
    let v-lawful : IsLawful v = quiet-lawful placed k w lawful in
    let v-acyclic : IsAcyclic v = quiet-acyclic placed k w lawful (comes-acyclic w r) in
    let v-identifies : IsIdentifying v = quiet-identifying placed k w lawful (comes-identifying w r) in
    let over : ResetsAreOver v = done-over v v-lawful (quiet-done placed k w lawful done) in
    record {
      is_core = is_core;
      node = member;
      in_core = inside;
      timed_out = λ n h. reported-after placed w k lawful (comes-acyclic w r) done late set core n is_core h;
      unnamed = shows-unnamed v v-lawful v-identifies set (λ a b y h. over a b y) v-acyclic node core member comp is_core inside;
    }

pub out-by-then : LoopsComeOutByThen
out-by-then placed w k r late node set core member comp is_core inside = loop-outcome placed w k node set core member r late comp is_core inside
