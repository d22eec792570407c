-- The order in which the nodes of a tree identify themselves.
use Rattle.std.specs.Prelude.{◌≡◌, ◌==◌, ℕ, ◌+◌, ◌^◌, ◌<◌, if◌then◌else◌, None, List, [], ◌∷◌, length}
use Rattle.std.specs.Int.{bit_at}
use Rattle.topology_stack.specs.Tree.{Label, Tree}
use Rattle.cabling.specs.Wiring.{Wiring, NodeNumber}
use Rattle.cabling.specs.NodeSet.{Nodes}
use Rattle.cabling.specs.Component.{IsComponent}
use Rattle.cabling.specs.Sees.{Sees, numbers}

-- whatever the labels are, the tree seen from the root has its nodes in this order
pub record WalkOf
    (c : Wiring) (label : NodeNumber → Label) (root : NodeNumber) (walk : List NodeNumber)
    : Type 0 where
  pub tree : Tree
  pub seen : Sees c label root None tree
  pub order : walk ≡ numbers c root tree

abbrev pub IsWalk : Wiring → NodeNumber → List NodeNumber → Type 0
IsWalk c root walk = (label : NodeNumber → Label) → WalkOf c label root walk

-- how often a number stands in a list
abbrev pub times : ℕ → List ℕ → ℕ
times x [] = 0
times x (y ∷ ys) = (if y == x then 1 else 0) + times x ys

-- a walk holds each node of the component once, and no other
abbrev pub WalksHoldEachNodeOnce : Wiring → Type 0
WalksHoldEachNodeOnce c =
    (root : NodeNumber) (set : Nodes) (walk : List NodeNumber) →
    root < length c → set < 2 ^ 63 → IsComponent c root set → IsWalk c root walk →
    (node : NodeNumber) → times node walk ≡ bit_at set node
