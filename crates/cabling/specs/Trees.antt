-- Where cables show a tree: exactly where they form no loop.
use Rattle.std.specs.Prelude.{None, ◌^◌, ◌<◌, length}
use Rattle.topology_stack.specs.Tree.{Label, Tree}
use Rattle.cabling.specs.Wiring.{Wiring, NodeNumber}
use Rattle.cabling.specs.NodeSet.{Nodes, IsEmpty}
use Rattle.cabling.specs.Component.{IsComponent}
use Rattle.cabling.specs.Looped.{IsCore}
use Rattle.cabling.specs.Sees.{Sees, SmallTree}

-- from each node of a component without a core a tree is seen, no larger than a bus may be
abbrev pub ShowsTreesWithoutCore : Wiring → Type 0
ShowsTreesWithoutCore c =
    (root : NodeNumber) (set core : Nodes) →
    root < length c → set < 2 ^ 63 → IsComponent c root set → IsCore c set core → IsEmpty core →
    (label : NodeNumber → Label) → SmallTree c label root

-- a component from one of whose nodes a tree is seen has no core
abbrev pub SeenTreesHaveNoCore : Wiring → Type 0
SeenTreesHaveNoCore c =
    (root : NodeNumber) (set core : Nodes) (label : NodeNumber → Label) (tree : Tree) →
    IsComponent c root set → IsCore c set core → Sees c label root None tree →
    IsEmpty core
