-- The text of a bus tree: a line for each node, by rising ID, and a last line.
use Rattle.std.specs.Prelude.{ℕ, ◌+◌, ◌-◌, Bool, true, false, List, [], ◌∷◌, ◌++◌, length, slice_get, codes, decimal, Option, Some, None}
use Rattle.self_id.specs.declared.node.Attrs.{Attrs}
use Rattle.self_id.specs.declared.node.PortStatus.{PortStatus}
use Rattle.self_id.specs.declared.node.PortStatus.TheVariants.{Absent, Unplugged, Up, Down}
use Rattle.self_id.specs.Node.{Node}
use Rattle.topology_stack.specs.Tree.{Tree, walk}
use Rattle.topology_stack.specs.Far.{ends}
use Rattle.topology_stack.specs.Elect.{elected}

-- a word and a number
unfoldable pub field : List ℕ → ℕ → List ℕ
field word n = word ++ decimal n

abbrev pub truth : Bool → ℕ
truth false = 0
truth true = 1

-- ` speed S contender C power P initiated I ports`
unfoldable pub rest_of_attrs : Attrs → List ℕ
rest_of_attrs a =
    field (codes " speed ") a.speed ++ (field (codes " contender ") (truth a.contender)
    ++ (field (codes " power ") a.power
    ++ (field (codes " initiated ") (truth a.initiated) ++ codes " ports")))

-- `node ID link L gap G speed S contender C power P initiated I ports`
unfoldable pub attrs_text : ℕ → Attrs → List ℕ
attrs_text id a =
    field (codes "node ") id ++ (field (codes " link ") (truth a.link)
    ++ (field (codes " gap ") a.gap ++ rest_of_attrs a))

-- a slot: `-`, `.`, `^` and the parent's ID, or `v` and the child's ID
abbrev pub sign : PortStatus → Option ℕ → List ℕ
sign Absent end = codes " -"
sign Unplugged end = codes " ."
sign Up None = codes " ^"
sign Up (Some id) = codes " ^" ++ decimal id
sign Down None = codes " v"
sign Down (Some id) = codes " v" ++ decimal id

abbrev pub signs : List PortStatus → List (Option ℕ) → List ℕ
signs [] es = []
signs (p ∷ ps) [] = []
signs (p ∷ ps) (e ∷ es) = sign p e ++ signs ps es

-- ` name NAME`, where there is one
abbrev pub naming : Option (List ℕ) → List ℕ
naming None = []
naming (Some name) = codes " name " ++ name

unfoldable pub node_line : ℕ → Node → List (Option ℕ) → Option (List ℕ) → List ℕ
node_line id n es name = attrs_text id n.attrs ++ (signs n.ports es ++ (naming name ++ codes "\n"))

-- the lines of nodes, whose IDs are counted from `id`, with the ends of their slots, and with names
-- by ID
abbrev pub lines_from : ℕ → List Node → List (List (Option ℕ)) → List (List ℕ) → List ℕ
lines_from id [] es names = []
lines_from id (n ∷ ns) [] names = []
lines_from id (n ∷ ns) (e ∷ es) names =
    node_line id n e (slice_get names id) ++ lines_from (id + 1) ns es names

abbrev pub irm : Option ℕ → List ℕ
irm None = codes " irm none"
irm (Some id) = codes " irm " ++ decimal id

-- `nodes N root R irm M`
unfoldable pub last_line : ℕ → Option ℕ → List ℕ
last_line count manager =
    field (codes "nodes ") count
    ++ (field (codes " root ") (count - 1) ++ (irm manager ++ codes "\n"))

abbrev pub tree_text : Tree → List (List ℕ) → List ℕ
tree_text t names = lines_from 0 (walk t) (ends t) names ++ last_line (length (walk t)) (elected t)
