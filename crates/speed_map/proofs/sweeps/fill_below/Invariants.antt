use Rattle.speed_map.specs.codings.Sweep.{Taking}
use Rattle.speed_map.proofs.sweeps.fill_below.Given as goal

abbrev pub invariant-loop-slot : goal.invariant-loop-slot
invariant-loop-slot l = Taking l.tree l.rows l.id l.slot l.first
