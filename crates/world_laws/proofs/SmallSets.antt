-- The nodes of a component exist, so that its number is small.
use Rattle.std.proofs.Common.{ℕ, ◌-◌, ◌^◌, ◌<◌, length, arith}
use Rattle.cabling.specs.Wiring.{Wiring, IsCabling}
use Rattle.cabling.specs.Component.{IsComponent}
use Rattle.cabling.specs.Existence.{HasComponent}
use Rattle.cabling.proofs.Lemmas.{component_exists, small-set}

pub small-component :
    (c : Wiring) (node set : ℕ) → IsCabling c → node < length c → IsComponent c node set → set < 2 ^ 63
small-component c node set is there comp =
    let other : HasComponent c node = component_exists c node is there in
    small-set set 63 (λ i h. omega (arith, other.there i (comp.least other.set other.is.holds other.is.closed i h), is.few_nodes))
