-- Cablings and labels that are the same for the nodes of a set.
use Rattle.std.specs.Prelude.{◌≡◌, ℕ, None}
use Rattle.topology_stack.specs.Tree.{Label, Tree}
use Rattle.cabling.specs.Wiring.{Wiring, ports_of}
use Rattle.cabling.specs.NodeSet.{Holds}
use Rattle.cabling.specs.Sees.{Sees, numbers}
use Rattle.outcomes.specs.WalkMarks.{mark}

pub record Alike (c d : Wiring) (label other : ℕ → Label) (set : ℕ) : Type 0 where
  pub ports : (k : ℕ) → Holds set k → ports_of c k ≡ ports_of d k
  pub labels : (k : ℕ) → Holds set k → label k ≡ other k

-- the second shows the same tree, in the same order and with the same marks
pub record SeenAlike (c d : Wiring) (other : ℕ → Label) (root : ℕ) (t : Tree) : Type 0 where
  pub seen : Sees d other root None t
  pub order : numbers c root t ≡ numbers d root t
  pub marks : (z q : ℕ) → mark c root t 0 z q ≡ mark d root t 0 z q
