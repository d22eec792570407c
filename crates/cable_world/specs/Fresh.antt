-- A component where a reset has just begun.
use Rattle.std.specs.Prelude.{◌≡◌, ◌≢◌, ℕ}
use Rattle.cabling.specs.NodeSet.{Holds}
use Rattle.port_state.specs.declared.signal.Phase.TheVariants.{ResetStart, ResetWait}
use Rattle.cable_world.specs.World.{CableWorld}
use Rattle.cable_world.specs.Outcome.{AtView}

-- Some node resets the bus; whoever does has just begun; none waits for its neighbours' resets to
-- end.
pub record IsFresh (w : CableWorld) (set : ℕ) : Type 0 where
  pub node : ℕ
  pub holds : Holds set node
  pub resets : AtView w node (λ v. v.phase ≡ ResetStart)
  pub begins : (k : ℕ) → Holds set k → AtView w k (λ v. v.phase ≡ ResetStart → v.timer ≡ 0)
  pub waits : (k : ℕ) → Holds set k → AtView w k (λ v. v.phase ≢ ResetWait)
