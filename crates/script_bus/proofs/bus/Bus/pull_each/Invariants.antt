use Rattle.std.proofs.Common.{drop}
use Rattle.script_told.specs.Bus.{Bus}
use Rattle.script_advice.specs.Advice.{PullsLead}
use Rattle.script_advice.specs.Advising.{ArePullable}
use Rattle.script_bus.proofs.bus.Bus.pull_each.Given as goal

-- the cables that are left are plugged in, and their pulls lead where those of all lead
abbrev pub invariant-loop-cable : goal.invariant-loop-cable
invariant-loop-cable l =
    ArePullable l.bus.world.cabling (drop l.cable-index l.cables)
    × ((after : Bus) → PullsLead l.bus (drop l.cable-index l.cables) after →
    PullsLead l.fn.self l.cables after)
