use Rattle.std.proofs.Common.{drop}
use Rattle.script_told.specs.Bus.{Bus}
use Rattle.script_advice.specs.Advice.{all_pulls, PullsLead}
use Rattle.script_advice.specs.Advising.{ArePullable}
use Rattle.script_bus.proofs.bus.Bus.pull_all.Given as goal

-- the cables that are left are plugged in, and their pulls lead where those of all lead
abbrev pub invariant-loop-advice : goal.invariant-loop-advice
invariant-loop-advice l =
    ArePullable l.bus.world.cabling (all_pulls (drop l.advice-index l.advices))
    × ((after : Bus) → PullsLead l.bus (all_pulls (drop l.advice-index l.advices)) after →
    PullsLead l.fn.self (all_pulls l.advices) after)
