-- How the hops are found node by node. No public contract cites this file: public clauses speak of
-- paths.
use Rattle.std.specs.Prelude.{◌+◌, ◌-◌, max, List, [], ◌∷◌, ◌++◌, length, take, drop}
use Rattle.self_id.specs.Node.{Node, downs}
use Rattle.bus_manager.specs.declared.paths.Reach.{Reach}

-- a node's reach with one child more, whose own reach comes first
abbrev pub with_child : Reach → Reach → Reach
with_child child rest = record {
  depth = max (child.depth + 1) rest.depth;
  longest = max (max child.longest (child.depth + 1 + rest.depth)) rest.longest;
}

-- the reach of a node above these children
abbrev pub above : List Reach → Reach
above [] = record { depth = 0; longest = 0 }
above (r ∷ rs) = with_child r (above rs)

-- the reaches of the trees that wait for a parent, after one more node, and after some more
abbrev pub after_node : List Reach → Node → List Reach
after_node waiting n =
    take (length waiting - downs n.ports) waiting
    ++ above (drop (length waiting - downs n.ports) waiting) ∷ []

abbrev pub after_nodes : List Reach → List Node → List Reach
after_nodes waiting [] = waiting
after_nodes waiting (n ∷ ns) = after_nodes (after_node waiting n) ns
