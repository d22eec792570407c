-- The cables of a bus tree: one for each slot that is down.
use Rattle.std.specs.Prelude.{◌≡◌, ℕ, ◌+◌, ◌<◌, min, ◌==◌, if◌then◌else◌, Option, Some, None, List, [], ◌∷◌, ◌++◌, length, slice_get}
use Rattle.self_id.specs.declared.node.PortStatus.{PortStatus}
use Rattle.self_id.specs.declared.node.PortStatus.TheVariants.{Absent, Unplugged, Up, Down}
use Rattle.self_id.specs.Node.{Node}
use Rattle.topology_stack.specs.Tree.{Tree, walk}
use Rattle.topology_stack.specs.Far.{ends}
use Rattle.speed_map.specs.Path.{node_speed}
use Rattle.view_text.specs.declared.cable.Cable.{Cable}

-- the number of the first slot that is up, counted from `from`; 0 where there is none
abbrev pub first_up : ℕ → List PortStatus → ℕ
first_up from [] = 0
first_up from (Absent ∷ ps) = first_up (from + 1) ps
first_up from (Unplugged ∷ ps) = first_up (from + 1) ps
first_up from (Up ∷ ps) = from
first_up from (Down ∷ ps) = first_up (from + 1) ps

-- the port of a node that leads to its parent
abbrev pub up_of : Option Node → ℕ
up_of None = 0
up_of (Some n) = first_up 0 n.ports

-- the speed code of a node
abbrev pub speed_of : Option Node → ℕ
speed_of None = 0
speed_of (Some n) = node_speed n

-- the cable from a port of a node to the child with this ID: its speed is the less of both nodes'
abbrev pub cable_to : Tree → ℕ → ℕ → ℕ → Cable
cable_to t id slot child = record {
  parent = id;
  port = slot;
  child = child;
  child_port = up_of (slice_get (walk t) child);
  speed = min (speed_of (slice_get (walk t) id)) (speed_of (slice_get (walk t) child));
}

-- the cable of a slot, where the slot is down
abbrev pub cable_at : Tree → ℕ → ℕ → PortStatus → Option ℕ → List Cable
cable_at t id slot Absent far = []
cable_at t id slot Unplugged far = []
cable_at t id slot Up far = []
cable_at t id slot Down None = []
cable_at t id slot Down (Some child) = cable_to t id slot child ∷ []

-- the cables of a node's slots, numbered from `slot`, with the ends of the slots
abbrev pub cables_of : Tree → ℕ → ℕ → List PortStatus → List (Option ℕ) → List Cable
cables_of t id slot [] es = []
cables_of t id slot (p ∷ ps) [] = []
cables_of t id slot (p ∷ ps) (e ∷ es) = cable_at t id slot p e ++ cables_of t id (slot + 1) ps es

-- the cables of nodes, whose IDs are counted from `id`
abbrev pub cables_from : Tree → ℕ → List Node → List (List (Option ℕ)) → List Cable
cables_from t id [] ends = []
cables_from t id (n ∷ ns) [] = []
cables_from t id (n ∷ ns) (es ∷ ends) =
    cables_of t id 0 n.ports es ++ cables_from t (id + 1) ns ends

-- the cables of a tree, by rising ID of the parent and by its port
abbrev pub cables : Tree → List Cable
cables t = cables_from t 0 (walk t) (ends t)

-- ---- laws

-- on how many of the cables a node hangs
abbrev pub times : ℕ → List Cable → ℕ
times id [] = 0
times id (c ∷ cs) = (if c.child == id then 1 else 0) + times id cs

-- each node but the root, whose ID is the last, hangs on exactly one cable
abbrev pub EachNodeHangsOnOneCable : Type 0
EachNodeHangsOnOneCable =
    (t : Tree) (id : ℕ) → id + 1 < length (walk t) → times id (cables t) ≡ 1

-- so a tree has one cable less than nodes
abbrev pub CablesAreOneLessThanNodes : Type 0
CablesAreOneLessThanNodes = (t : Tree) → length (cables t) + 1 ≡ length (walk t)
