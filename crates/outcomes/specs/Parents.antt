-- Nodes that know by which of their ports the root is reached, their parent ports.
use Rattle.std.specs.Prelude.{◌≡◌, ◌≢◌, ℕ, Option, Some, None, List, ◌∷◌}
use Rattle.topology_stack.specs.Tree.{Tree, branch, Slots, absent, unplugged, up, down}
use Rattle.cabling.specs.declared.cable.End.{End}
use Rattle.cabling.specs.Wiring.{Wiring, ports_of, far}
use Rattle.cabling.specs.NodeSet.{Holds}

-- the parent port of node k leads to a node whose port there isn't its own parent port
pub record LeadsUp (c : Wiring) (parent : ℕ → Option ℕ) (k : ℕ) : Type 0 where
  pub port : ℕ
  pub is : parent k ≡ Some port
  pub end : End
  pub joined : far c (record { node = k; port = port }) ≡ Some end
  pub child : parent end.node ≢ Some end.port

-- in a set of nodes the root has no parent port, and each other node has one that leads up
pub record HasParents (c : Wiring) (set root : ℕ) (parent : ℕ → Option ℕ) : Type 0 where
  pub none : parent root ≡ None
  pub others : (k : ℕ) → Holds set k → k ≢ root → LeadsUp c parent k

-- The same from above: the root has no parent port, and whatever port of a node isn't its parent
-- port leads to the parent port of another.
pub record LeadDown (c : Wiring) (set root : ℕ) (parent : ℕ → Option ℕ) : Type 0 where
  pub none : parent root ≡ None
  pub others :
      (k p : ℕ) (b : End) → Holds set k → far c (record { node = k; port = p }) ≡ Some b →
      parent k ≢ Some p → parent b.node ≡ Some b.port

-- in a seen tree the parent ports are the ports by which its nodes are come to
abbrev mutual
  pub ParentsAre : Wiring → (ℕ → Option ℕ) → ℕ → Option ℕ → Tree → Type 0
  ParentsAre c parent x from (branch a s) =
      (parent x ≡ from) × ParentsBelow c parent (ports_of c x) s

  pub ParentsBelow : Wiring → (ℕ → Option ℕ) → List (Option End) → Slots → Type 0
  ParentsBelow c parent (Some far ∷ ports) (down t s) =
      ParentsAre c parent far.node (Some far.port) t × ParentsBelow c parent ports s
  ParentsBelow c parent (port ∷ ports) (absent s) = ParentsBelow c parent ports s
  ParentsBelow c parent (port ∷ ports) (unplugged s) = ParentsBelow c parent ports s
  ParentsBelow c parent (port ∷ ports) (up s) = ParentsBelow c parent ports s
  ParentsBelow c parent ports s = Unit {0}
