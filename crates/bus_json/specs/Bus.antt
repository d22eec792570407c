-- The value of a bus: what a program is told of a bus tree.
use Rattle.std.specs.Prelude.{ℕ, ◌+◌, ◌-◌, Option, Some, None, List, [], ◌∷◌, length, slice_get, codes}
use Rattle.self_id.specs.declared.node.Attrs.{Attrs}
use Rattle.self_id.specs.declared.node.PortStatus.{PortStatus}
use Rattle.self_id.specs.declared.node.PortStatus.TheVariants.{Absent, Unplugged, Up, Down}
use Rattle.self_id.specs.Node.{Node}
use Rattle.topology_stack.specs.Tree.{Tree, walk}
use Rattle.topology_stack.specs.Far.{ends}
use Rattle.topology_stack.specs.Elect.{elected}
use Rattle.json.specs.Json.{Json, null, boolean, string, array, object, Items, no_items, item, Members, no_members, member}
use Rattle.bus_json.specs.Text.{numeral}

-- the number of the schema, which stands first in each object that is written
abbrev pub with_schema : Members → Json
with_schema members = object (member (codes "schema") (numeral 1) members)

-- ---- ports

abbrev pub status_word : PortStatus → List ℕ
status_word Absent = codes "absent"
status_word Unplugged = codes "inactive"
status_word Up = codes "parent"
status_word Down = codes "child"

-- the ID of the node at the other end, where there is one
abbrev pub far_member : Option ℕ → Members
far_member None = no_members
far_member (Some id) = member (codes "far") (numeral id) no_members

abbrev pub port_value : PortStatus → Option ℕ → Json
port_value status far =
    object (member (codes "status") (string (status_word status)) (far_member far))

-- what stands at the end of a slot
abbrev pub end_at : ℕ → Option (List (Option ℕ)) → Option ℕ
end_at slot None = None
end_at slot (Some far) = end_of (slice_get far slot)
  where
    end_of : Option (Option ℕ) → Option ℕ
    end_of None = None
    end_of (Some end) = end

-- the ports of the node with this ID, numbered from `slot`
abbrev pub port_items : Tree → ℕ → ℕ → List PortStatus → Items
port_items t id slot [] = no_items
port_items t id slot (p ∷ ps) =
    item (port_value p (end_at slot (slice_get (ends t) id))) (port_items t id (slot + 1) ps)

-- ---- nodes

-- a name, where the node has one
abbrev pub name_member : Option (List ℕ) → Members → Members
name_member None rest = rest
name_member (Some name) rest = member (codes "name") (string name) rest

-- what a node says of itself beside its ports
abbrev pub attrs_members : Attrs → Members → Members
attrs_members a rest =
    member (codes "link") (boolean a.link)
    (member (codes "gap") (numeral a.gap)
    (member (codes "speed") (numeral a.speed)
    (member (codes "contender") (boolean a.contender)
    (member (codes "power") (numeral a.power)
    (member (codes "initiated") (boolean a.initiated) rest)))))

abbrev pub node_value : Tree → ℕ → Node → Option (List ℕ) → Json
node_value t id n name =
    object (member (codes "id") (numeral id) (name_member name (attrs_members n.attrs
    (member (codes "ports") (array (port_items t id 0 n.ports)) no_members))))

-- the nodes, whose IDs are counted from `id`, with their names by ID
abbrev pub node_items : Tree → List (List ℕ) → ℕ → List Node → Items
node_items t names id [] = no_items
node_items t names id (n ∷ ns) =
    item (node_value t id n (slice_get names id)) (node_items t names (id + 1) ns)

-- ---- the bus

-- the ID of the isochronous resource manager, or null
abbrev pub manager_value : Option ℕ → Json
manager_value None = null
manager_value (Some id) = numeral id

-- the nodes by rising ID, the root's ID and the manager's; the names of nodes by ID, or none
abbrev pub tree_members : List (List ℕ) → Tree → Members
tree_members names t =
    member (codes "nodes") (array (node_items t names 0 (walk t)))
    (member (codes "root") (numeral (length (walk t) - 1))
    (member (codes "manager") (manager_value (elected t)) no_members))

abbrev pub bus_value : Tree → Json
bus_value t = with_schema (tree_members [] t)
