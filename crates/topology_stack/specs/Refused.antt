-- Exactly where a list is no bus tree's of a standard, and by which fault.
use Rattle.std.specs.Prelude.{◌≡◌, ℕ, ◌<◌, ◌≤◌, List, [], ◌++◌, length}
use Rattle.self_id.specs.declared.standard.Standard.{Standard}
use Rattle.self_id.specs.Node.{Node, IsNode, IsOf, ups, downs}
use Rattle.self_id.specs.Group.{group}
use Rattle.self_id.specs.Refused.{GroupRefused}
use Rattle.topology_stack.specs.declared.fault.TreeFault.{TreeFault}
use Rattle.topology_stack.specs.declared.fault.TreeFault.TheVariants.{Group, Empty, TooFewChildren, TreesLeft, AfterRoot, NoRoot, TooMany}
use Rattle.topology_stack.specs.Tree.{Tree, IsBusTreeOf, emits}
use Rattle.topology_stack.specs.Forest.{walks, Forest}

-- A list begins with the groups of a forest, at most so many, and goes on at a place.
pub record GoesOn (standard : Standard) (l : List ℕ) (ts : List Tree) (front rest : List ℕ)
    (at most : ℕ) : Type 0 where
  pub forest : Forest standard ts front
  pub parts : l ≡ front ++ rest
  pub more : 0 < length rest
  pub place : at ≡ length front
  pub few : length (walks ts) ≤ most

-- There a whole group of a node follows, whose slots that are down want so many trees.
pub record GroupNext (standard : Standard) (l : List ℕ) (ts : List Tree) (n : Node)
    (at found wanted : ℕ) : Type 0 where
  pub front : List ℕ
  pub rest : List ℕ
  pub goes_on : GoesOn standard l ts front (group n (length (walks ts)) ++ rest) at 62
  pub is_node : IsNode n
  pub is_of : IsOf standard n
  pub found_is : found ≡ length ts
  pub wanted_is : wanted ≡ downs n.ports

-- Which fault a list has. `at` is a place in it, counted in quadlets.
abbrev pub Refused : Standard → List ℕ → TreeFault → Type 0
-- the list is empty
Refused standard l Empty = l ≡ []
-- it ends, at its length, where trees wait for a parent
Refused standard l (NoRoot at) =
    (ts : List Tree) × Forest standard ts l × (0 < length (walks ts)) × (length (walks ts) ≤ 63)
    × (at ≡ length l)
-- it goes on after all that a bus tree emits
Refused standard l (AfterRoot at) =
    (t : Tree) × (rest : List ℕ) × IsBusTreeOf standard t × (l ≡ emits t ++ rest)
    × (0 < length rest) × (at ≡ length (emits t))
-- it goes on after the groups of 63 nodes
Refused standard l (TooMany at) =
    (ts : List Tree) × (front rest : List ℕ) × GoesOn standard l ts front rest at 63
    × (length (walks ts) ≡ 63)
-- it goes on, and no group of the node with the next ID stands there
Refused standard l (Group f) =
    (ts : List Tree) × (front rest : List ℕ) × (at : ℕ) × GoesOn standard l ts front rest at 62
    × GroupRefused standard at (length (walks ts)) rest f
-- the next node wants more children than there are trees that wait
Refused standard l (TooFewChildren at found wanted) =
    (ts : List Tree) × (n : Node) × GroupNext standard l ts n at found wanted × (found < wanted)
-- the next node is a root, and wants fewer children than there are trees that wait
Refused standard l (TreesLeft at found wanted) =
    (ts : List Tree) × (n : Node) × GroupNext standard l ts n at found wanted × (ups n.ports ≡ 0)
    × (wanted < found)
