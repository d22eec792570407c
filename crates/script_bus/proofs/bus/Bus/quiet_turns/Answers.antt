use Rattle.std.proofs.Common.{◌∙◌, ap}
use Rattle.settle.specs.Report.{quiet_turns_of}
use Rattle.script_bus.proofs.bus.Bus.quiet_turns.Goals as goal

pub returns : goal.returns
returns c = c.quiet_turns_for.ensures ∙ ap quiet_turns_of c.world.ensures.is
