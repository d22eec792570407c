-- A component came to a tree whichever number stands for its set of nodes.
use Rattle.std.proofs.Common.{ℕ}
use Rattle.topology_stack.specs.Tree.{Tree}
use Rattle.cabling.specs.Wiring.{Wiring}
use Rattle.cabling.specs.NodeSet.{Holds}
use Rattle.cabling.specs.Component.{IsComponent}
use Rattle.cabling.specs.Looped.{IsCore}
use Rattle.cable_world.specs.World.{CableWorld}
use Rattle.cable_world.specs.Outcome.{IsTree}

abbrev pub SameNodes : ℕ → ℕ → Type 0
SameNodes a b = ((k : ℕ) → Holds a k → Holds b k) × ((k : ℕ) → Holds b k → Holds a k)

pub same-component :
    (c : Wiring) (node a b : ℕ) → IsComponent c node a → IsComponent c node b → SameNodes a b
same-component c node a b h k = (h.least b k.holds k.closed, k.least a h.holds h.closed)

same-core : (c : Wiring) (a b core : ℕ) → SameNodes a b → IsCore c a core → IsCore c b core
same-core c a b core same h = λ node. (
  (λ inside. let p = (h node).0 inside in (p.0, (λ k m. same.0 k (p.1 k m)), p.2, p.3)),
  (λ p. (h node).1 (p.0, (λ k m. same.1 k (p.1 k m)), p.2, p.3)),
)

pub same-tree : (w : CableWorld) (a b root : ℕ) (t : Tree) → SameNodes a b → IsTree w a root t →
    IsTree w b root t
same-tree w a b root t same h = record {
  no_loop = record { core = h.no_loop.core; is_core = same-core w.cabling a b h.no_loop.core same h.no_loop.is_core; empty = h.no_loop.empty };
  holds_root = same.0 root h.holds_root;
  seen = h.seen;
  no_parent = h.no_parent;
  parents = λ k m ne. h.parents k (same.1 k m) ne;
  ids = λ k m. h.ids k (same.1 k m);
  lists = λ k m. h.lists k (same.1 k m);
}
