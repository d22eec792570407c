-- No fewer cables than those advised leave a component without a loop.
use Rattle.std.proofs.Common.{ℕ, ◌<◌, List, length, arith}
use Rattle.cabling.specs.declared.cable.Cable.{Cable}
use Rattle.cabling.specs.Wiring.{Wiring, NodeNumber, IsCabling}
use Rattle.cabling.specs.NodeSet.{Nodes, Holds}
use Rattle.cabling.specs.Component.{IsComponent}
use Rattle.cabling.proofs.Lemmas.{has_leaves, small-set}
use Rattle.loop_advice.specs.Certificate.{IsCertificate}
use Rattle.loop_advice.proofs.Lemmas.{no_fewer}
use Rattle.script_advice.specs.Advice.{AreFewest}

pub fewest-of :
    (c : Wiring) (node : NodeNumber) (set : Nodes) (pulls kept : List Cable) → IsCabling c →
    ((k : NodeNumber) → Holds set k → k < length c) → IsComponent c node set →
    IsCertificate c node pulls kept → AreFewest c set pulls
fewest-of c node set pulls kept cables there is valid left others core left_cables pulled of_core empty =
    no_fewer c left left_cables (has_leaves left) node pulls kept others set core
    (small-set set 63 (λ i h. omega (arith, there i h, cables.few_nodes))) valid pulled is of_core empty
