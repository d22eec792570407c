-- What is reported of a world.
use Rattle.std.specs.Prelude.{◌≡◌, ℕ, ◌<◌, ◌≤◌, List, Some, length, max, slice_get, All, Any, AllPairs}
use Rattle.cabling.specs.Wiring.{Wiring}
use Rattle.cabling.specs.NodeSet.{Holds}
use Rattle.cabling.specs.Component.{IsComponent}
use Rattle.cabling.specs.Walk.{IsWalk}
use Rattle.port_state.specs.declared.timing.Timing.{Timing}
use Rattle.cable_world.specs.World.{CableWorld, NodeNumber, NodeSet}
use Rattle.cable_world.specs.Turn.{turns_after}
use Rattle.cable_world.specs.Run.{IsReached, quiet_turns}
use Rattle.cable_world.specs.Outcome.{AtView}
use Rattle.convergence.specs.Turns.{slack, turns_to_settle}
use Rattle.outcomes.specs.Headline.{IsLeftAlone}
use Rattle.settle.specs.declared.report.Part.{Part}
use Rattle.settle.specs.declared.report.Outcome.TheVariants as reported
use Rattle.settle.specs.declared.report.Report.{Report}
use Rattle.settle.specs.Reported.{IsReported}

-- the nodes of the set exist
abbrev pub AreThere : CableWorld → NodeSet → Type 0
AreThere w set = (k : NodeNumber) → Holds set k → k < length w.cabling

-- ---- numbers of a component

-- the greatest of the numbers of the nodes of a set
pub record IsGreatest (set : NodeSet) (IsOf : NodeNumber → ℕ → Type 0) (most : ℕ) : Type 0 where
  pub node : NodeNumber
  pub holds : Holds set node
  pub reached : IsOf node most
  pub bound : (k : NodeNumber) (n : ℕ) → Holds set k → IsOf k n → n ≤ most

-- a node drew so many coins since its last reset
abbrev pub Drew : CableWorld → NodeNumber → ℕ → Type 0
Drew w k n = AtView w k (λ v. v.draws ≡ n)

-- a node's list last changed at the end of so many turns
abbrev pub LastChanged : CableWorld → NodeNumber → ℕ → Type 0
LastChanged w k n = slice_get w.changed k ≡ Some n

-- ---- the report

-- what is reported of a component
pub record IsPart (w : CableWorld) (part : Part) : Type 0 where
  pub node : NodeNumber
  pub component : IsComponent w.cabling node part.nodes
  pub there : AreThere w part.nodes
  pub rounds : IsGreatest part.nodes (Drew w) part.rounds
  pub changed : IsGreatest part.nodes (LastChanged w) part.changed
  pub outcome : IsReported w part.nodes part.outcome

-- the least node of the one part is below that of the other
pub record StartsBefore (one other : Part) : Type 0 where
  pub least : NodeNumber
  pub holds : Holds one.nodes least
  pub below : (k : NodeNumber) → Holds other.nodes k → least < k

-- of each component there is one part, and the parts stand by rising least node
pub record AreParts (w : CableWorld) (parts : List Part) : Type 0 where
  pub each : All (IsPart w) parts
  pub rising : AllPairs StartsBefore parts
  pub whole : (k : NodeNumber) → k < length w.cabling → Any (λ part. Holds part.nodes k) parts

pub record IsReport (w : CableWorld) (report : Report) : Type 0 where
  pub turn : report.turn ≡ w.turns
  pub parts : AreParts w report.parts

-- ---- a tree in it

-- The part with a node is a tree with this root, whose order is the walk from there.
pub record IsTreeFrom (c : Wiring) (from root : NodeNumber) (part : Part) : Type 0 where
  pub holds : Holds part.nodes from
  pub list : List ℕ
  pub order : List NodeNumber
  pub outcome : part.outcome ≡ reported.Tree root list order
  pub walk : IsWalk c root order

-- ---- the turns before it

-- so many as its nodes and its cables want, and as its longest times do
abbrev pub quiet_turns_of : CableWorld → ℕ
quiet_turns_of w = max (quiet_turns (length w.cabling) w.delay) (turns_to_settle w)

-- a world of so many nodes, whose cables delay by at most so many turns, none of whose nodes takes
-- longer, and whose clocks have this slack
pub record IsSized (w : CableWorld) (nodes delay : ℕ) (longest : Timing) (spare : ℕ) : Type 0 where
  pub nodes_are : length w.nodes ≡ nodes
  pub cables_are : length w.cabling ≡ nodes
  pub delay_is : w.delay ≡ delay
  pub longest_is : w.longest ≡ longest
  pub slack_is : slack w ≡ spare

-- all of these turns were done, and nothing else
abbrev pub IsAfterQuiet : CableWorld → CableWorld → Type 0
IsAfterQuiet w v = v ≡ turns_after (quiet_turns_of w) w

-- the world comes of a reached one that was left alone: no act came since, and turns enough, with
-- holds between them
pub record HasSettled (w : CableWorld) : Type 0 where
  pub before : CableWorld
  pub reached : IsReached before
  pub is : IsLeftAlone before w
