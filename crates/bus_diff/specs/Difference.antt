-- What is told of two buses as all that differs between them.
use Rattle.std.specs.Prelude.{◌≡◌, List, []}
use Rattle.topology_stack.specs.Tree.{Tree}
use Rattle.bus_diff.specs.declared.pair.Pair.{Pair}
use Rattle.bus_diff.specs.declared.change.Change.{Change}
use Rattle.bus_diff.specs.Matching.{IsMatching}
use Rattle.bus_diff.specs.Change.{AreChanges}
use Rattle.bus_diff.specs.Listed.{changes}
use Rattle.bus_diff.specs.Same.{same_ids}

-- By a matching of the nodes exactly what differs is told, each once and in one order. Where nothing differs
-- between nodes of the same IDs, as between a bus and itself, nothing is told.
pub record AreDifferences (old new : Tree) (told : List Change) : Type 0 where
  pub pairs : List Pair
  pub matching : IsMatching old new pairs
  pub list : told ≡ changes old new pairs
  pub exact : AreChanges old new pairs told
  pub alike : changes old new (same_ids old new) ≡ [] → told ≡ []
  pub same : old ≡ new → told ≡ []
