use Rattle.script_trace.proofs.Shown.{shown-sent}
use Rattle.script_trace.proofs.laws.turns_show_what_is_sent.Goals as goal

pub returns : goal.returns
returns c = shown-sent c.turn_by_number.ensures.wire
