-- When an advice is valid.
use Rattle.std.specs.Prelude.{◌≡◌, ◌+◌, List, ◌++◌, length}
use Rattle.cabling.specs.declared.cable.Cable.{Cable}
use Rattle.cabling.specs.Wiring.{Wiring, NodeNumber}
use Rattle.cabling.specs.NodeSet.{Nodes, size_below}
use Rattle.cabling.specs.Component.{IsComponent}
use Rattle.loop_advice.specs.Cables.{HoldsEachOnce, JoinAll}

-- The two lists together hold each cable of the node's component once and no other; as many cables
-- are kept as the component has nodes, less one; and these alone join all its nodes.
pub record IsCertificate (c : Wiring) (node : NodeNumber) (pulls kept : List Cable) : Type 0 where
  pub component : Nodes
  pub of_node : IsComponent c node component
  pub each : HoldsEachOnce c component (pulls ++ kept)
  pub count : length kept + 1 ≡ size_below component 63
  pub join : JoinAll kept node component
