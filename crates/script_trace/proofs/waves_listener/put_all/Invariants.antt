use Rattle.std.proofs.Common.{◌≡◌, ◌≤◌, ◌++◌, List, true, drop}
use Rattle.script_trace.specs.Event.{Seen}
use Rattle.script_trace.specs.News.{picked, IsEnough}
use Rattle.script_trace.specs.waves.Moment.{all_changes}
use Rattle.script_trace.proofs.waves_listener.put_all.Given as goal

abbrev pub invariant-loop-node : goal.invariant-loop-node
invariant-loop-node g l =
    let w = g.W.WorldRun.world l.world in
    record {
      place : l.next ≤ l.node;
      told : (all : List Seen) → IsEnough true l.touched l.seen all w →
          (l.out.items ++ all_changes w l.node (drop l.node all) (drop l.node w.nodes) ≡ l.initial.out.items ++ all_changes w 0 all w.nodes)
          × (drop l.next l.seen ≡ picked l.touched l.node (drop l.node all));
    }
