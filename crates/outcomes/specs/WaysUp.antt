-- Where cables form no loop, one way leads from each node up to a chosen one.
use Rattle.std.specs.Prelude.{◌≡◌, ◌≢◌, ℕ, Bool, true, false, Option, Some}
use Rattle.cabling.specs.declared.cable.End.{End}
use Rattle.cabling.specs.Wiring.{Wiring, far}
use Rattle.cabling.specs.NodeSet.{Holds}
use Rattle.outcomes.specs.Parents.{HasParents}

-- a member of which no neighbour is a member, but perhaps the one that its way up leads to
pub record Lowest (c : Wiring) (up : ℕ → Option ℕ) (set : ℕ) (member : ℕ → Bool) : Type 0 where
  pub node : ℕ
  pub in_set : Holds set node
  pub is : member node ≡ true
  pub others :
      (p : ℕ) (b : End) → far c (record { node = node; port = p }) ≡ Some b → up node ≢ Some p →
      member b.node ≡ false

-- each node but the root has its port up, and a cable that isn't the way up of its one end is that
-- of its other
pub record WaysUp (c : Wiring) (set root : ℕ) (up : ℕ → Option ℕ) : Type 0 where
  pub ups : HasParents c set root up
  pub down :
      (k p : ℕ) (b : End) → Holds set k → far c (record { node = k; port = p }) ≡ Some b →
      up k ≢ Some p → up b.node ≡ Some b.port
  pub lowest : (member : ℕ → Bool) (k : ℕ) → Holds set k → member k ≡ true → Lowest c up set member
