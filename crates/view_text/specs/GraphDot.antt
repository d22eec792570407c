-- The graph of a bus tree is one in DOT.
use Rattle.std.specs.Prelude.{◌≡◌, ℕ, ◌+◌, List, [], ◌∷◌, decimal, codes}
use Rattle.self_id.specs.Node.{Node}
use Rattle.topology_stack.specs.Tree.{Tree, walk}
use Rattle.view_text.specs.declared.cable.Cable.{Cable}
use Rattle.view_text.specs.Cable.{cables}
use Rattle.view_text.specs.Graph.{graph}
use Rattle.view_text.specs.Dot.{Id, word, Statement, IsDot, nodes_of, edges_of}

-- a node has the name `n` and a number behind it
abbrev pub node_name : ℕ → Id
node_name number = word (110 ∷ decimal number)

-- the names of nodes whose IDs are counted from `id`
abbrev pub names_from : ℕ → List Node → List Id
names_from id [] = []
names_from id (n ∷ ns) = node_name id ∷ names_from (id + 1) ns

-- a cable is an edge between the names of its parent and of its child
abbrev pub cable_edges : List Cable → List (Id × Id)
cable_edges [] = []
cable_edges (c ∷ cs) = (node_name c.parent, node_name c.child) ∷ cable_edges cs

-- a text is a graph in DOT that has each node of a tree and no other, by rising ID, and an edge for each of the
-- tree's cables and no other
pub record IsTreeDot (t : Tree) (text : List ℕ) : Type 0 where
  pub statements : List Statement
  pub is : IsDot (word (codes "bus")) statements text
  pub nodes : nodes_of statements ≡ names_from 0 (walk t)
  pub edges : edges_of statements ≡ cable_edges (cables t)

-- ---- laws

-- whatever the tree
abbrev pub GraphsAreDot : Type 0
GraphsAreDot = (t : Tree) → IsTreeDot t (graph t)
