-- Which advices there are.
use Rattle.std.specs.Prelude.{◌<◌, List, length}
use Rattle.cabling.specs.declared.cable.Cable.{Cable}
use Rattle.cabling.specs.Wiring.{Wiring, NodeNumber, IsCabling}
use Rattle.cabling.specs.NodeSet.{Nodes}
use Rattle.cabling.specs.Component.{IsComponent}
use Rattle.loop_advice.specs.Advised.{AreAdvised}
use Rattle.loop_advice.specs.Certificate.{IsCertificate}

-- the cables of a node's component that are advised for pulling, and the others
pub record HasAdvice (c : Wiring) (node : NodeNumber) (set : Nodes) : Type 0 where
  pub pulls : List Cable
  pub kept : List Cable
  pub advised : AreAdvised c set pulls kept
  pub valid : IsCertificate c node pulls kept

-- the component of each node of a cabling has an advice
abbrev pub AdvicesExist : Type 0
AdvicesExist =
    (c : Wiring) (node : NodeNumber) (set : Nodes) →
    IsCabling c → node < length c → IsComponent c node set → HasAdvice c node set
