use Rattle.std.proofs.Common.{◌+◌, ◌<◌, ◌≤◌, ℕ, map, get_or}
use Rattle.cabling.specs.NodeSet.{Holds}
use Rattle.world_agenda.specs.Agenda.{AreBelow}
use Rattle.world_agenda.proofs.nodes.due_nodes.Given as goal

abbrev pub invariant-loop-at : goal.invariant-loop-at
invariant-loop-at g l =
    let ends = map (λ n. n.clock + n.idle) l.nodes in
    record {
      below : AreBelow l.due l.at;
      idles : (k : ℕ) → k < l.at → (Holds l.due k → ⊥) → (l.turns + 1 ≤ get_or ends k 0) × (l.next ≤ get_or ends k 0);
    }
