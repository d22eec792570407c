use Rattle.std.proofs.Common.{◌≡◌, ◌++◌, drop}
use Rattle.script_trace.specs.waves.Head.{all_scopes}
use Rattle.script_trace.proofs.waves_head.put_scopes.Given as goal

abbrev pub invariant-loop-node : goal.invariant-loop-node
invariant-loop-node g l =
    let w = g.W.WorldRun.world l.world in
    l.out.items ++ all_scopes l.names l.node (drop l.node w.nodes)
    ≡ l.initial.out.items ++ all_scopes l.names 0 w.nodes
