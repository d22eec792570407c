-- What the value of a bus tells.
use Rattle.std.specs.Prelude.{◌≡◌, []}
use Rattle.topology_stack.specs.Tree.{Tree}
use Rattle.topology_stack.specs.Text.{tree_text}
use Rattle.bus_json.specs.Bus.{bus_value}

-- buses with one value have one text, so that they differ in nothing that the text tells
abbrev pub ValuesTellTexts : Type 0
ValuesTellTexts = (t u : Tree) → bus_value t ≡ bus_value u → tree_text t [] ≡ tree_text u []
