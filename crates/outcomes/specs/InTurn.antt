-- Nodes that become ready in the order of the walk.
use Rattle.std.specs.Prelude.{◌≡◌, ℕ, ◌<◌, ◌≤◌, Bool, true, Option}
use Rattle.cabling.specs.declared.cable.End.{End}
use Rattle.cabling.specs.Wiring.{Wiring}
use Rattle.cabling.specs.NodeSet.{Holds}
use Rattle.outcomes.specs.WalkMarks.{place}
use Rattle.outcomes.specs.Intervals.{LeadsToChild}

-- What is so at each child cable, and at each two of a node: a ready node has its turn, and its
-- children are ready; where a child has its turn, so has its parent, and the children at lower
-- ports are ready.
pub record InTurn
    (c : Wiring) (parent : ℕ → Option ℕ) (set : ℕ) (turn ready : ℕ → Bool)
    : Type 0 where
  pub own : (k : ℕ) → Holds set k → ready k ≡ true → turn k ≡ true
  pub down :
      (k p : ℕ) (b : End) → Holds set k → LeadsToChild c parent k p b → ready k ≡ true →
      ready b.node ≡ true
  pub up :
      (k p : ℕ) (b : End) → Holds set k → LeadsToChild c parent k p b → turn b.node ≡ true →
      turn k ≡ true
  pub left :
      (k p q : ℕ) (b d : End) → Holds set k → LeadsToChild c parent k p b →
      LeadsToChild c parent k q d → p < q → turn d.node ≡ true → ready b.node ≡ true

-- So all that comes before a node that has its turn is ready, and the ready nodes are the first of
-- the walk.
pub record ReadyFirst
    (c : Wiring) (set : ℕ) (mark : ℕ → ℕ → ℕ) (turn ready : ℕ → Bool)
    : Type 0 where
  pub before :
      (j k : ℕ) → Holds set j → Holds set k → turn k ≡ true → place c mark j < mark k 0 →
      ready j ≡ true
  pub first :
      (j k : ℕ) → Holds set j → Holds set k → ready k ≡ true → place c mark j ≤ place c mark k →
      ready j ≡ true
