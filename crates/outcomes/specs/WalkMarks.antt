-- How many nodes identify themselves before those below a port.
use Rattle.std.specs.Prelude.{◌≡◌, ◌≢◌, ◌⊎◌, ℕ, zero, suc, ◌+◌, ◌<◌, ◌≤◌, Bool, false, ◌==◌, ◌||◌, if◌then◌else◌, Option, Some, None, List, [], ◌∷◌, length, slice_get}
use Rattle.topology_stack.specs.Tree.{Tree, branch, Slots, unplugged, up, down}
use Rattle.cabling.specs.declared.cable.End.{End}
use Rattle.cabling.specs.Wiring.{Wiring, ports_of, far}
use Rattle.cabling.specs.NodeSet.{Holds}
use Rattle.cabling.specs.Sees.{numbers}

abbrev pub is_in : ℕ → List ℕ → Bool
is_in z [] = false
is_in z (x ∷ xs) = (z == x) || is_in z xs

-- the nodes below the ports before the q-th of these
abbrev pub before : Wiring → List (Option End) → Slots → ℕ → ℕ
before c ports s zero = 0
before c (Some far ∷ ports) (down t s) (suc q) = length (numbers c far.node t) + before c ports s q
before c (None ∷ ports) (unplugged s) (suc q) = before c ports s q
before c (Some far ∷ ports) (up s) (suc q) = before c ports s q
before c ports s q = 0

-- The mark of port q of node z, in a seen tree whose first node in the walk has the number `base`:
-- so many nodes of the walk come before those below the port. A node's mark past its last port is
-- its own place.
abbrev mutual
  pub mark : Wiring → ℕ → Tree → ℕ → ℕ → ℕ → ℕ
  mark c x (branch a s) base z q =
      if z == x then base + before c (ports_of c x) s q
      else mark_below c (ports_of c x) s base z q

  pub mark_below : Wiring → List (Option End) → Slots → ℕ → ℕ → ℕ → ℕ
  mark_below c (Some far ∷ ports) (down t s) base z q =
      if is_in z (numbers c far.node t) then mark c far.node t base z q
      else mark_below c ports s (base + length (numbers c far.node t)) z q
  mark_below c (None ∷ ports) (unplugged s) base z q = mark_below c ports s base z q
  mark_below c (Some far ∷ ports) (up s) base z q = mark_below c ports s base z q
  mark_below c ports s base z q = 0

-- a node's place in the walk: the mark past its last port
abbrev pub place : Wiring → (ℕ → ℕ → ℕ) → ℕ → ℕ
place c mark k = mark k (length (ports_of c k))

-- What marks are, port by port. The nodes below a child port have the places from its mark on, and
-- the mark of the next port is behind them; at any other port the mark stays. The root begins with
-- 0.
pub record Marked
    (c : Wiring) (parent : ℕ → Option ℕ) (set root : ℕ) (order : List ℕ) (mark : ℕ → ℕ → ℕ)
    : Type 0 where
  pub first : mark root 0 ≡ 0
  pub last : place c mark root + 1 ≡ length order
  pub enters :
      (k p : ℕ) (b : End) → Holds set k → far c (record { node = k; port = p }) ≡ Some b →
      parent k ≢ Some p → mark b.node 0 ≡ mark k p
  pub leaves :
      (k p : ℕ) (b : End) → Holds set k → far c (record { node = k; port = p }) ≡ Some b →
      parent k ≢ Some p → mark k (p + 1) ≡ place c mark b.node + 1
  pub stays :
      (k p : ℕ) → Holds set k → p < length (ports_of c k) →
      (far c (record { node = k; port = p }) ≡ None) ⊎ (parent k ≡ Some p) → mark k (p + 1)
      ≡ mark k p
  pub rises : (k p : ℕ) → Holds set k → p < length (ports_of c k) → mark k p ≤ mark k (p + 1)
  pub at : (k : ℕ) → Holds set k → slice_get order (place c mark k) ≡ Some k
  pub covers : (i : ℕ) → i < length order → (k : ℕ) × Holds set k × (place c mark k ≡ i)
