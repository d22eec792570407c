use Rattle.std.proofs.Common.{◌<◌}
use Rattle.config_rom.specs.codings.Marks.{AddsTargets}
use Rattle.config_rom.proofs.reach.add_targets.Given as goal

abbrev pub invariant-loop-entry : goal.invariant-loop-entry
invariant-loop-entry l = AddsTargets l.quads l.at l.entry l.fn.marks l.marks × (l.at < l.entry)
