-- Marked ends of cables.
use Rattle.std.specs.Prelude.{◌≡◌, ℕ, ◌+◌, ◌*◌, true, false, Some, slice_index_or}
use Rattle.cabling.specs.declared.cable.End.{End}
use Rattle.cabling.specs.Wiring.{Wiring, NodeNumber, far}
use Rattle.cabling.specs.NodeSet.{Nodes, Holds}
use Rattle.loop_advice.specs.declared.marks.Marks.{Marks}

-- each node has 16 places, one for each port that it may have
abbrev pub place : End → ℕ
place end = 16 * end.node + end.port

abbrev pub IsMarked : Marks → End → Type 0
IsMarked m end = slice_index_or m.marked (place end) false ≡ true

-- of the ends with a cable at this node each is marked
abbrev pub IsMarkedAt : Wiring → Marks → NodeNumber → Type 0
IsMarkedAt c m node = (a b : End) → far c a ≡ Some b → a.node ≡ node → IsMarked m a

-- of the ends with a cable at nodes of this set each is marked
abbrev pub AreMarked : Wiring → Marks → Nodes → Type 0
AreMarked c m set = (node : NodeNumber) → Holds set node → IsMarkedAt c m node
