use Rattle.std.proofs.Common.{◌≡◌, ◌-◌, ◌≤◌, ◌++◌}
use Rattle.std.specs.Prelude.{IsFalse}
use Rattle.cable_world.specs.Turn.{turns_after}
use Rattle.cable_world.specs.Unchanged.{TurnsPass}
use Rattle.script_trace.specs.Voice.{turns_told}
use Rattle.script_trace.proofs.steps.hear_each.Given as goal

abbrev pub invariant-loop-done : goal.invariant-loop-done
invariant-loop-done g l =
    let w = g.W.WorldRun.world l.fn.world in
    let v = g.W.WorldRun.world l.world in
    let told = turns_told g.L.Listener.voice l.legend in
    record {
      few : l.done ≤ l.count;
      is : v ≡ turns_after l.done w;
      heard : g.L.Listener.written l.listener ++ told (l.count - l.done) v ≡ g.L.Listener.written l.fn.listener ++ told l.count w;
      passed : TurnsPass l.done w v;
      fine : IsFalse (g.W.WorldRun.is_spent l.world);
    }

abbrev pub decreases-loop-done : goal.decreases-loop-done
decreases-loop-done g l = l.count - l.done
