-- Trees that wait for a parent, and the list that they emit.
use Rattle.std.specs.Prelude.{◌≡◌, ℕ, List, [], ◌∷◌, ◌++◌}
use Rattle.self_id.specs.declared.standard.Standard.{Standard}
use Rattle.self_id.specs.Node.{Node}
use Rattle.topology_stack.specs.Tree.{Tree, walk, IsPart, AreOf, groups}

-- each has one slot up at its outermost node too; the last one comes first
abbrev pub AreWaiting : List Tree → Type 0
AreWaiting [] = Unit {0}
AreWaiting (t ∷ ts) = IsPart t × AreWaiting ts

-- their walks, one after the other
abbrev pub walks : List Tree → List Node
walks [] = []
walks (t ∷ ts) = walks ts ++ walk t

-- a list is the groups of the walks of trees of this standard that wait, with IDs counted through
-- from 0
pub record Forest (standard : Standard) (ts : List Tree) (l : List ℕ) : Type 0 where
  pub waiting : AreWaiting ts
  pub are_of : AreOf standard (walks ts)
  pub emitted : l ≡ groups 0 (walks ts)
