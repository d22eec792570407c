-- Which components and cores there are.
use Rattle.std.specs.Prelude.{◌<◌, ◌^◌, length}
use Rattle.cabling.specs.Wiring.{Wiring, NodeNumber, IsCabling}
use Rattle.cabling.specs.NodeSet.{Nodes, Holds}
use Rattle.cabling.specs.Component.{IsComponent}
use Rattle.cabling.specs.Looped.{IsCore}

-- the component of a node, which is a set of nodes that exist
pub record HasComponent (c : Wiring) (node : NodeNumber) : Type 0 where
  pub set : Nodes
  pub is : IsComponent c node set
  pub there : (other : NodeNumber) → Holds set other → other < length c
  pub small : set < 2 ^ 63

-- each node of a cabling has a component
abbrev pub ComponentsExist : Type 0
ComponentsExist =
    (c : Wiring) (node : NodeNumber) → IsCabling c → node < length c → HasComponent c node

-- the core of a set
pub record HasCore (c : Wiring) (set : Nodes) : Type 0 where
  pub core : Nodes
  pub is : IsCore c set core
  pub small : core < 2 ^ 63

-- each set of nodes has a core
abbrev pub CoresExist : Type 0
CoresExist = (c : Wiring) (set : Nodes) → set < 2 ^ 63 → HasCore c set
