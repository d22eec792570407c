-- A tree has one number of hops.
use Rattle.std.proofs.Common.{◌≡◌, ℕ, arith}
use Rattle.topology_stack.specs.Tree.{Tree}
use Rattle.bus_manager.specs.Hops.{IsHops}

pub one_hops : (t : Tree) (h k : ℕ) → IsHops t h → IsHops t k → h ≡ k
one_hops t h k a b = omega (arith, a.longest k b.path, b.longest h a.path)
