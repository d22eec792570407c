-- The list of the tree in which a node of a script's bus stands settled.
use Rattle.std.specs.Prelude.{ℕ, List, Option, None, Some, Result, Ok, Err}
use Rattle.cable_world.specs.World.{NodeNumber}
use Rattle.script_lines.specs.declared.kind.Kind.{Kind}
use Rattle.script_lines.specs.declared.kind.Kind.TheVariants.{NoNode, NotSettled}
use Rattle.script_told.specs.Bus.{Bus, ReportedTree, node_named, tree_with}

-- the list of a tree, else `NotSettled`
abbrev pub list_in : Option ReportedTree → Result (List ℕ) Kind
list_in None = Err NotSettled
list_in (Some tree) = Ok tree.list

-- the list of the tree of a node, else `NoNode`
abbrev pub list_at : Bus → Option NodeNumber → Result (List ℕ) Kind
list_at bus None = Err NoNode
list_at bus (Some node) = list_in (tree_with node bus.notes)

-- the list of the node with a name, as it was last reported, or what a `maps` with the name is refused
-- for where it isn't
abbrev pub list_of : Bus → List ℕ → Result (List ℕ) Kind
list_of bus name = list_at bus (node_named bus.notes.names name)
