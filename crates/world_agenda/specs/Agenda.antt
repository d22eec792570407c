-- What an agenda keeps of the nodes that a turn needn't visit.
use Rattle.std.specs.Prelude.{◌≡◌, ◌<◌, ◌≤◌, ℕ, List, length, slice_index_or}
use Rattle.cabling.specs.NodeSet.{Nodes, Holds}

-- a set of numbers below this one
abbrev pub AreBelow : Nodes → ℕ → Type 0
AreBelow set count = (k : ℕ) → Holds set k → k < count

-- each node that isn't in the set is idle to the end of a turn, where the idle turns of each have this
-- end
abbrev pub IdlesBut : Nodes → ℕ → List ℕ → Type 0
IdlesBut set turn ends =
    (k : ℕ) → k < length ends → (Holds set k → ⊥) → turn ≤ slice_index_or ends k 0

-- the clock of each node that isn't in the set stands at a turn
abbrev pub AreAtBut : Nodes → ℕ → List ℕ → Type 0
AreAtBut set turn clocks =
    (k : ℕ) → k < length clocks → (Holds set k → ⊥) → slice_index_or clocks k 0 ≡ turn

-- what an agenda says: the nodes that aren't due `soon` are idle to the end of turn number `next`
pub record Knows (soon next : ℕ) (ends : List ℕ) : Type 0 where
  pub near : AreBelow soon (length ends)
  pub idles : IdlesBut soon next ends
