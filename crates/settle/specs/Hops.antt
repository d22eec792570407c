-- The hops of a bus don't depend on its root.
use Rattle.std.specs.Prelude.{ℕ, ◌<◌, None, length}
use Rattle.topology_stack.specs.Tree.{Label, Tree, IsBusTree}
use Rattle.cabling.specs.Wiring.{Wiring, NodeNumber}
use Rattle.cabling.specs.NodeSet.{Nodes, Holds}
use Rattle.cabling.specs.Component.{IsComponent}
use Rattle.cabling.specs.Sees.{Sees}
use Rattle.bus_manager.specs.Hops.{IsHops}

-- the trees that cables show from two nodes of a component have the same hops
abbrev pub HopsStay : Wiring → Type 0
HopsStay c =
    (label other : NodeNumber → Label) (root next : NodeNumber) (set : Nodes) (t u : Tree)
    (hops : ℕ) → root < length c → next < length c → IsComponent c root set →
    Holds set next → Sees c label root None t → Sees c other next None u →
    IsBusTree t → IsBusTree u → IsHops t hops → IsHops u hops
