-- The tree that a cabling shows from one of its nodes, and the order in which its nodes identify
-- themselves.
use Rattle.std.specs.Prelude.{◌≡◌, ◌≢◌, ℕ, ◌+◌, ◌≤◌, Option, Some, None, List, [], ◌∷◌, ◌++◌, length}
use Rattle.self_id.specs.Slots.{slot_count}
use Rattle.topology_stack.specs.Tree.{Label, Tree, branch, Slots, no_more, absent, unplugged, up, down, statuses}
use Rattle.cabling.specs.declared.cable.End.{End}
use Rattle.cabling.specs.Wiring.{Wiring, NodeNumber, ports_of}

-- From node `x`, come to by its port `from` or by none, the cabling with labels shows the tree: its
-- node has the label of `x`, and its slots are those of the ports of `x`.
-- A slot is absent where the node has no such port, unplugged where no cable is in the port, up
-- where the port is `from`, and else down to the tree that is seen from the far end.
abbrev mutual
  pub Sees : Wiring → (NodeNumber → Label) → NodeNumber → Option ℕ → Tree → Type 0
  Sees c label x from (branch a s) =
      (a ≡ label x) × (length (statuses s) ≡ slot_count (length (ports_of c x)))
      × SeesFrom c label from 0 (ports_of c x) s

  -- the slots of the ports from number `p` on, whose far ends are `ports`
  pub SeesFrom :
      Wiring → (NodeNumber → Label) → Option ℕ → ℕ → List (Option End) → Slots → Type 0
  SeesFrom c label from p [] no_more = Unit {0}
  SeesFrom c label from p [] (absent s) = SeesFrom c label from (p + 1) [] s
  SeesFrom c label from p (None ∷ ports) (unplugged s) = SeesFrom c label from (p + 1) ports s
  SeesFrom c label from p (Some far ∷ ports) (up s) =
      (from ≡ Some p) × SeesFrom c label from (p + 1) ports s
  SeesFrom c label from p (Some far ∷ ports) (down t s) =
      (from ≢ Some p) × Sees c label far.node (Some far.port) t
      × SeesFrom c label from (p + 1) ports s
  SeesFrom c label from p ports s = ⊥

-- the numbers of a seen tree's nodes, in the order of its walk
abbrev mutual
  pub numbers : Wiring → NodeNumber → Tree → List NodeNumber
  numbers c x (branch a s) = numbers_below c (ports_of c x) s ++ x ∷ []

  pub numbers_below : Wiring → List (Option End) → Slots → List NodeNumber
  numbers_below c (Some far ∷ ports) (down t s) = numbers c far.node t ++ numbers_below c ports s
  numbers_below c (port ∷ ports) (absent s) = numbers_below c ports s
  numbers_below c (port ∷ ports) (unplugged s) = numbers_below c ports s
  numbers_below c (port ∷ ports) (up s) = numbers_below c ports s
  numbers_below c ports s = []

-- a seen tree that is no larger than a bus may be
pub record SmallTree (c : Wiring) (label : NodeNumber → Label) (root : NodeNumber) : Type 0 where
  pub tree : Tree
  pub seen : Sees c label root None tree
  pub few : length (numbers c root tree) ≤ 63

-- from a root one tree at most is seen
abbrev pub SeesOneTree : Wiring → Type 0
SeesOneTree c =
    (label : NodeNumber → Label) (root : NodeNumber) (one other : Tree) →
    Sees c label root None one → Sees c label root None other →
    one ≡ other
