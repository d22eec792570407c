use Rattle.std.proofs.Common.{◌≡◌}
use Rattle.script_trace.proofs.listener.tally_after_act.Given as goal

abbrev pub invariant-loop-node : goal.invariant-loop-node
invariant-loop-node g l = record {
  same : g.W.WorldRun.world l.world ≡ g.W.WorldRun.world l.fn.world;
  spent : g.W.WorldRun.is_spent l.world ≡ g.W.WorldRun.is_spent l.fn.world;
}
