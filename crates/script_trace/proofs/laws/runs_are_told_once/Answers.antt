use Rattle.script_trace.proofs.OneTrace.{told-once, each-told}
use Rattle.script_trace.proofs.laws.runs_are_told_once.Goals as goal

pub returns : goal.returns
returns c =
    let trees = c.one_tree.ensures in
    let keeps = c.acts_keep.ensures.nodes in
    record { one = told-once trees keeps; some = each-told trees keeps }
