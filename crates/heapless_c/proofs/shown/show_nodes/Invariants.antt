use Rattle.std.proofs.Common.{◌≡◌, ℕ, ◌<◌, ◌≤◌, length, take, get_or}
use Rattle.topology_stack.specs.Tree.{Tree, walk, groups}
use Rattle.c_records.specs.Shown.{IsNodeRecord}
use Rattle.c_records.specs.declared.records.NodeRecord.{NodeRecord}
use Rattle.heapless_c.specs.Reading.{IsLinked}
use Rattle.heapless_c.proofs.shown.show_nodes.Given as goal

abbrev pub invariant-loop-id : goal.invariant-loop-id
invariant-loop-id l = record {
  place : (t : Tree) → IsLinked l.standard l.quads l.links.parents.items l.links.children t → l.at ≡ length (groups 0 (take l.id (walk t)));
  room : length l.nodes ≡ length l.initial.nodes;
  below : (t : Tree) → IsLinked l.standard l.quads l.links.parents.items l.links.children t → (k : ℕ) (d : NodeRecord) → k < l.id → IsNodeRecord t k (get_or l.nodes k d);
  above : (k : ℕ) (d : NodeRecord) → l.id ≤ k → get_or l.nodes k d ≡ get_or l.initial.nodes k d;
}
