use Rattle.std.proofs.Common.{◌≡◌, ◌++◌, drop}
use Rattle.script_trace.specs.News.{picked}
use Rattle.script_trace.specs.Step.{seen_before_act}
use Rattle.script_trace.proofs.watch.seen_before_act.Given as goal

abbrev pub invariant-loop-node : goal.invariant-loop-node
invariant-loop-node g l =
    let w = g.W.WorldRun.world l.world in
    let all = seen_before_act w 0 w.nodes in
    l.seen.items ++ picked l.touched l.node (drop l.node all) ≡ picked l.touched 0 all
