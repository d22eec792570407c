-- The first pair that contends, node by node.
use Rattle.std.proofs.Common.{◌≡◌, ℕ, Some, subst, refl}
use Rattle.cabling.specs.declared.cable.End.{End}
use Rattle.cabling.specs.Wiring.{far}
use Rattle.cabling.specs.NodeSet.{Holds}
use Rattle.cabling.specs.Component.{IsClosed}
use Rattle.cable_world.specs.World.{CableWorld}
use Rattle.cable_world.specs.Outcome.{HasNoLoop, IsContention}
use Rattle.settle.specs.Reported.{IsNoTree, ReportsContention}
use Rattle.settle.specs.codings.Reading.{Contend, IsLeastPair, HasNoPair}

-- the ends of a contention contend
pub ends-contend : (w : CableWorld) (set a b : ℕ) → IsContention w set a b → Contend w a b
ends-contend w set a b h = record {
  rising = h.rising;
  neighbours = record { port = h.port_a; end = record { node = b; port = h.port_b }; joined = h.cable; is = refl };
  draws = h.draws;
}

-- and two nodes of a component that do are the ends of one
contention-of :
    (w : CableWorld) (set a b : ℕ) → IsClosed w.cabling set → HasNoLoop w set → Holds set a → Contend w a b →
    IsContention w set a b
contention-of w set a b closed no_loop holds h =
    let near : End = record { node = a; port = h.neighbours.port } in
    let end : End = h.neighbours.end in
    let joined : far w.cabling near ≡ Some (record { node = b; port = end.port }) =
    subst (λ (n : ℕ). far w.cabling near ≡ Some (record { node = n; port = end.port })) h.neighbours.is h.neighbours.joined in
    record {
      no_loop = no_loop;
      rising = h.rising;
      holds_a = holds;
      holds_b = closed near (record { node = b; port = end.port }) joined holds;
      port_a = h.neighbours.port;
      port_b = end.port;
      cable = joined;
      draws = h.draws;
    }

pub pair-contends :
    (w : CableWorld) (set a b : ℕ) → IsClosed w.cabling set → HasNoLoop w set → IsNoTree w set → IsLeastPair w set a b →
    ReportsContention w set a b
pair-contends w set a b closed no_loop no_tree h = record {
  is = contention-of w set a b closed no_loop h.holds h.is;
  first = λ c d k. h.first c d k.holds_a (ends-contend w set c d k);
  no_tree = no_tree;
}

pub none-contends : (w : CableWorld) (set : ℕ) → HasNoPair w set → (a b : ℕ) →
    IsContention w set a b → ⊥
none-contends w set none a b h = none a b h.holds_a (ends-contend w set a b h)
