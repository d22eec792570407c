-- What a tree has emitted once so many of its nodes have identified themselves.
use Rattle.std.specs.Prelude.{◌≡◌, ℕ, ◌+◌, Option, List, [], ◌++◌, take}
use Rattle.self_id.specs.Group.{group}
use Rattle.topology_stack.specs.Tree.{Label, Tree, walk, groups, emits}
use Rattle.cabling.specs.Wiring.{Wiring}
use Rattle.cabling.specs.NodeSet.{Holds}
use Rattle.cabling.proofs.Lemmas.{shown_node}
use Rattle.outcomes.specs.WalkMarks.{place}

abbrev pub emit : Tree → ℕ → List ℕ
emit t m = groups 0 (take m (walk t))

-- It begins with nothing and ends with all. Each node adds its group, in which its place is its ID
-- and its parent port the one that is up.
pub record EmitsByNode
    (c : Wiring) (label : ℕ → Label) (parent : ℕ → Option ℕ) (set root : ℕ) (t : Tree)
    (mark : ℕ → ℕ → ℕ)
    : Type 0 where
  pub none : emit t 0 ≡ []
  pub all : emit t (place c mark root + 1) ≡ emits t
  pub next :
      (k : ℕ) → Holds set k → emit t (place c mark k + 1) ≡ emit t (place c mark k)
      ++ group (shown_node c label (record { node = k; from = parent k })) (place c mark k)
