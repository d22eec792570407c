-- The two ends of a cable, with their nodes, and tests of the levels there.
use Rattle.std.specs.Prelude.{◌≡◌, ℕ, ◌≤◌, Bool, true, Some, slice_get}
use Rattle.cabling.specs.declared.cable.End.{End}
use Rattle.cabling.specs.Wiring.{far}
use Rattle.port_state.specs.declared.signal.Level.{Level}
use Rattle.port_state.specs.Machine.{PortNode}
use Rattle.cable_world.specs.World.{CableWorld}
use Rattle.cable_world.specs.Quiet.{HoldSchedule, quiet_after}
use Rattle.cable_world.specs.Outcome.{AtNode}
use Rattle.cable_world.specs.Lawful.{IsLawful}
use Rattle.cable_world.specs.Agreement.{level_sent_at, level_shown}

-- two ends of a cable, with their nodes
pub record AreJoined (w : CableWorld) (a b : End) : Type 0 where
  pub joined : far w.cabling a ≡ Some b
  pub near : PortNode
  pub near_at : slice_get w.nodes a.node ≡ Some near
  pub other : PortNode
  pub other_at : slice_get w.nodes b.node ≡ Some other

-- the level that the node at this end last sent on the cable passes a test
abbrev pub TellsAt : CableWorld → End → (Level → Bool) → Type 0
TellsAt w end test = AtNode w end.node (λ x. test (level_sent_at x.state end.port) ≡ true)

-- the level that its port shows does
abbrev pub ShowsAt : CableWorld → End → (Level → Bool) → Type 0
ShowsAt w end test = AtNode w end.node (λ x. test (level_shown x.state end.port) ≡ true)

-- Where each level that a node told over a cable passes a test, for d quiet turns at least, the
-- level that the other end shows passes it.
abbrev pub LevelsComeThrough : Type 0
LevelsComeThrough =
    (holds : HoldSchedule) (w : CableWorld) (a b : End) (test : Level → Bool) (k : ℕ) →
    IsLawful w → far w.cabling a ≡ Some b → w.delay ≤ k →
    ((i : ℕ) → i ≤ k → TellsAt (quiet_after holds i w) a test) →
    ShowsAt (quiet_after holds k w) b test
