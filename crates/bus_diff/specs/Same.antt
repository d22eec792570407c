-- The matching by which each node is the one of the same ID.
use Rattle.std.specs.Prelude.{ℕ, zero, suc, List, [], length}
use Rattle.topology_stack.specs.Tree.{Tree, walk}
use Rattle.bus_diff.specs.declared.pair.Pair.{Pair}
use Rattle.bus_diff.specs.Along.{with_pair}

-- the nodes of the old bus with IDs below this one, each with that of the same ID, where they may be one
abbrev pub same_below : Tree → Tree → ℕ → List Pair
same_below old new zero = []
same_below old new (suc id) = with_pair old new (same_below old new id) (record { old = id; new = id })

abbrev pub same_ids : Tree → Tree → List Pair
same_ids old new = same_below old new (length (walk old))
