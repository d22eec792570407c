-- Trees are at rest: each component without loop is at rest in its tree, or two of its nodes
-- contend, with 32 equal draws.
use Rattle.std.specs.Prelude.{◌⊎◌, ℕ, ◌+◌, ◌*◌, ◌≤◌}
use Rattle.convergence.specs.Turns.{seen_turns}
use Rattle.cable_world.specs.World.{CableWorld}
use Rattle.cable_world.specs.Quiet.{HoldSchedule, quiet_after}
use Rattle.cable_world.specs.Run.{ComesOfPowerOn}
use Rattle.convergence.specs.Kept.{IsGrown}
use Rattle.convergence.specs.Milestones.{OfTrees, HasContention, TreesAreDecided}
use Rattle.convergence.specs.Turns.{turns_to_over, turns_to_decision, HoldsAfter}
use Rattle.outcomes.specs.Numbered.{IsAtRest}

abbrev pub TreesAreAtRest : CableWorld → Type 0
TreesAreAtRest w = OfTrees w (λ set. IsAtRest w set ⊎ HasContention w set)

-- from tree identify to rest: for each of 63 nodes at most five times what it takes until something is
-- seen
abbrev pub rest_turns : CableWorld → ℕ
rest_turns w = 315 * seen_turns w

abbrev pub turns_to_rest : CableWorld → ℕ
turns_to_rest w = turns_to_decision w + rest_turns w

-- after so many quiet turns of a world that comes of power-on trees are taken and decided
pub record IsDecided (holds : HoldSchedule) (w : CableWorld) (k : ℕ) : Type 0 where
  pub comes : ComesOfPowerOn w
  pub over : turns_to_over w ≤ k
  pub grown : IsGrown (quiet_after holds k w)
  pub decided : TreesAreDecided (quiet_after holds k w)

-- ---- laws

abbrev pub TreesRestOnceDecided : Type 0
TreesRestOnceDecided =
    (holds : HoldSchedule) (w : CableWorld) (j k : ℕ) → IsDecided holds w k → rest_turns w ≤ j →
    TreesAreAtRest (quiet_after holds (k + j) w)

abbrev pub TreesRestByThen : Type 0
TreesRestByThen = HoldsAfter turns_to_rest TreesAreAtRest
