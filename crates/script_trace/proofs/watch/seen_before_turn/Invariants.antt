use Rattle.std.proofs.Common.{◌≡◌, ◌++◌, drop, map}
use Rattle.script_trace.specs.News.{picked}
use Rattle.script_trace.specs.Step.{seen_before_turn}
use Rattle.script_trace.proofs.watch.seen_before_turn.Given as goal

abbrev pub invariant-loop-node : goal.invariant-loop-node
invariant-loop-node g l =
    let all = map seen_before_turn (g.W.WorldRun.world l.world).nodes in
    l.seen.items ++ picked l.touched l.node (drop l.node all) ≡ picked l.touched 0 all
