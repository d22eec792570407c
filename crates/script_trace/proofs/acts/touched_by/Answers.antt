use Rattle.script_trace.proofs.ActTouched.{touches}
use Rattle.script_trace.proofs.acts.touched_by.Goals as goal

pub returns : goal.returns
returns c = touches c.acts_by_number.ensures c.args.act.now c.args.cabling.now c.nodes_of.result c.nodes_of.ensures
