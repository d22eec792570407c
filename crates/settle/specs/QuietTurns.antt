-- Which worlds have settled.
use Rattle.std.specs.Prelude.{◌≡◌, length}
use Rattle.cable_world.specs.Times.{longest_in_range}
use Rattle.cable_world.specs.World.{CableWorld}
use Rattle.cable_world.specs.Run.{IsReached, quiet_turns}
use Rattle.settle.specs.Report.{quiet_turns_of, IsAfterQuiet, HasSettled}

-- where as many turns as a world is given were done, and nothing else, it has settled
abbrev pub QuietTurnsSettle : Type 0
QuietTurnsSettle = (w v : CableWorld) → IsReached w → IsAfterQuiet w v → HasSettled v

-- what has settled is reached
abbrev pub SettledWorldsAreReached : Type 0
SettledWorldsAreReached = (w : CableWorld) → HasSettled w → IsReached w

-- where times are in their ranges, it is given as many as its nodes and its cables want
abbrev pub NodesTellTurns : Type 0
NodesTellTurns =
    (w : CableWorld) → IsReached w → w.longest ≡ longest_in_range w.delay →
    quiet_turns_of w ≡ quiet_turns (length w.cabling) w.delay
