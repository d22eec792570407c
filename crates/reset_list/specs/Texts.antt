-- The texts that show a reset's list.
use Rattle.std.specs.Prelude.{ℕ, ◌+◌, ◌-◌, ◌==◌, Bool, true, false, not, ◌&&◌, if◌then◌else◌, Option, Some, None, List, [], ◌∷◌, ◌++◌, length, slice_get, codes}
use Rattle.self_id.specs.Node.{Node}
use Rattle.topology_stack.specs.Tree.{Tree, walk}
use Rattle.topology_stack.specs.Elect.{elected}
use Rattle.view_text.specs.Packet.{field}
use Rattle.view_text.specs.Drawing.{all_have}
use Rattle.bus_diff.specs.Listed.{changes_along}
use Rattle.bus_diff.specs.Text.{changes_text}
use Rattle.capture_reading.specs.declared.fault.CaptureFault.{CaptureFault}
use Rattle.capture_reading.specs.Line.{fault_line}

-- ---- a list that is refused

-- behind the head of a reset
unfoldable pub refused : List ℕ → CaptureFault → List ℕ
refused head f = head ++ (codes "\n" ++ fault_line f)

-- ---- a list that is heard as a tree

-- the ID of the resource manager, or `none`
abbrev pub manager : List ℕ → Option ℕ → List ℕ
manager word None = word ++ codes "none"
manager word (Some id) = field word id

-- ` nodes N root R irm I`
unfoldable pub numbers : Tree → List ℕ
numbers t =
    field (codes " nodes ") (length (walk t)) ++ (field (codes " root ") (length (walk t) - 1)
    ++ (manager (codes " irm ") (elected t) ++ codes "\n"))

-- more or fewer nodes, and so another root
unfoldable pub other_nodes : ℕ → ℕ → List ℕ
other_nodes old new =
    if new == old then []
    else field (codes "nodes ") new ++ (field (codes ", were ") old ++ codes "\n")

abbrev pub same_manager : Option ℕ → Option ℕ → Bool
same_manager None None = true
same_manager None (Some b) = false
same_manager (Some a) None = false
same_manager (Some a) (Some b) = a == b

unfoldable pub other_manager : Option ℕ → Option ℕ → List ℕ
other_manager old new =
    if same_manager new old then []
    else manager (codes "irm ") new ++ (manager (codes ", was ") old ++ codes "\n")

-- whether all nodes have the root's gap count
abbrev pub gap_of : Option Node → ℕ
gap_of None = 0
gap_of (Some n) = n.attrs.gap

abbrev pub agree : Tree → Bool
agree t = all_have (gap_of (slice_get (walk t) (length (walk t) - 1))) (walk t)

unfoldable pub gaps_differ : Bool → Bool → List ℕ
gaps_differ old new = if old && not new then codes "gap counts came to differ\n" else []

-- what is another than at the card's reset before
abbrev pub changed : Tree → Tree → List ℕ
changed old new =
    other_nodes (length (walk old)) (length (walk new))
    ++ (other_manager (elected old) (elected new) ++ gaps_differ (agree old) (agree new))

abbrev pub changes : Option Tree → Tree → List ℕ
changes None new = []
changes (Some old) new = changed old new

-- the same node by node, where both buses are walked along ports
abbrev pub node_changes : Option Tree → Tree → List ℕ
node_changes None new = []
node_changes (Some old) new = changes_text (changes_along old new)

-- each node that began the reset
unfoldable pub initiator : ℕ → Bool → List ℕ
initiator id initiated =
    if initiated then field (codes "node ") id ++ codes " initiated\n" else []

abbrev pub initiators : ℕ → List Node → List ℕ
initiators id [] = []
initiators id (n ∷ ns) = initiator id n.attrs.initiated ++ initiators (id + 1) ns
