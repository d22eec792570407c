-- A node's component has one core.
use Rattle.std.proofs.Common.{ℕ}
use Rattle.cabling.specs.Wiring.{Wiring}
use Rattle.cabling.specs.NodeSet.{IsWithin}
use Rattle.cabling.specs.Component.{IsComponent}
use Rattle.cabling.specs.Looped.{IsCoreOf}

-- each of two components of a node is within the other
pub component_within : (c : Wiring) (node a b : ℕ) → IsComponent c node a → IsComponent c node b →
    IsWithin a b
component_within c node a b x y = x.least b y.holds y.closed

pub core_within : (c : Wiring) (node a b : ℕ) → IsCoreOf c node a → IsCoreOf c node b → IsWithin a b
core_within c node a b x y n h =
    let p = (x.is n).0 h in
    (y.is n).1 (p.0, (λ m k. component_within c node x.component y.component x.of_node y.of_node m (p.1 m k)), p.2, p.3)
