-- A component without a loop has an order in which its nodes identify themselves.
use Rattle.std.specs.Prelude.{◌<◌, List, length}
use Rattle.cabling.specs.Wiring.{Wiring, NodeNumber, IsCabling}
use Rattle.cabling.specs.NodeSet.{Nodes, IsEmpty}
use Rattle.cabling.specs.Component.{IsComponent}
use Rattle.cabling.specs.Looped.{IsCore}
use Rattle.cabling.specs.Walk.{IsWalk}

pub record HasWalk (c : Wiring) (root : NodeNumber) : Type 0 where
  pub order : List NodeNumber
  pub is : IsWalk c root order

-- from each node of a component without a core
abbrev pub WalksExist : Type 0
WalksExist =
    (c : Wiring) (root : NodeNumber) (set core : Nodes) → IsCabling c → root < length c →
    IsComponent c root set → IsCore c set core → IsEmpty core → HasWalk c root
