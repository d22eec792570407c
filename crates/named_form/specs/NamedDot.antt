-- The graph of a bus tree is one in DOT with names in it too.
use Rattle.std.specs.Prelude.{◌≡◌, ℕ, List, None}
use Rattle.topology_stack.specs.Tree.{Tree}
use Rattle.view_text.specs.Graph.{graph}
use Rattle.view_text.specs.GraphDot.{IsTreeDot}
use Rattle.named_form.specs.File.{lines_of, fault_of}
use Rattle.named_form.specs.Mentions.{with_names}

-- whatever the tree, and whatever file of names has no fault
abbrev pub NamedGraphsAreDot : Type 0
NamedGraphsAreDot =
    (file : List ℕ) (t : Tree) → fault_of file ≡ None → IsTreeDot t (with_names (lines_of file) (graph t))
