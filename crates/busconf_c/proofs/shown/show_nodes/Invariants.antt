use Rattle.std.proofs.Common.{◌≡◌, ℕ, ◌<◌, ◌≤◌, get_or}
use Rattle.c_records.specs.Shown.{IsNodeRecord}
use Rattle.c_records.specs.declared.records.NodeRecord.{NodeRecord}
use Rattle.busconf_c.proofs.shown.show_nodes.Given as goal

abbrev pub invariant-loop-id : goal.invariant-loop-id
invariant-loop-id l = record {
  below : (k : ℕ) (d : NodeRecord) → k < l.id → IsNodeRecord l.tree k (get_or l.nodes k d);
  above : (k : ℕ) (d : NodeRecord) → l.id ≤ k → get_or l.nodes k d ≡ get_or l.initial.nodes k d;
}
