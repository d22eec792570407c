use Rattle.script_trace.proofs.NodeShown.{turn-shown, missed-shown, act-shown}
use Rattle.script_trace.proofs.laws.each_node_is_shown.Goals as goal

pub returns-clause-turns : goal.returns-clause-turns
returns-clause-turns c = turn-shown c.turn_by_number.ensures.node

pub returns-clause-missed : goal.returns-clause-missed
returns-clause-missed c = missed-shown c.turn_by_number.ensures.node

pub returns-clause-acts : goal.returns-clause-acts
returns-clause-acts c = act-shown
