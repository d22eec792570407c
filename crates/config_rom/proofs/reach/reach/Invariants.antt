use Rattle.config_rom.specs.codings.Marks.{Taken}
use Rattle.config_rom.proofs.reach.reach.Given as goal

abbrev pub invariant-loop-at : goal.invariant-loop-at
invariant-loop-at l = Taken l.quads l.root l.at l.marks
