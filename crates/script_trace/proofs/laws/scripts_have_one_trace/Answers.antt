use Rattle.script_trace.proofs.OneTrace.{one-trace, traced-told, fault-told, some-traces}
use Rattle.script_trace.proofs.laws.scripts_have_one_trace.Goals as goal

pub returns : goal.returns
returns c =
    let trees = c.one_tree.ensures in
    let keeps = c.acts_keep.ensures.nodes in
    record {
      one = one-trace trees keeps;
      told = traced-told;
      fault = fault-told;
      some = some-traces trees keeps;
    }
