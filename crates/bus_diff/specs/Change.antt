-- What differs between two buses, told of the nodes that are matched and of those that aren't.
use Rattle.std.specs.Prelude.{◌≡◌, ◌≢◌, ℕ, ◌+◌, ◌<◌, Bool, true, false, ◌==◌, ◌&&◌, ◌||◌, IsTrue, if◌then◌else◌, IsSomeAnd, Contains, find, Option, Some, None, is_some, List, length, slice_get}
use Rattle.std.specs.List.{list_any}
use Rattle.self_id.specs.declared.node.Attrs.{Attrs}
use Rattle.self_id.specs.Node.{Node}
use Rattle.topology_stack.specs.Tree.{Tree, walk}
use Rattle.topology_stack.specs.Text.{truth}
use Rattle.topology_stack.specs.Elect.{elected}
use Rattle.view_text.specs.declared.cable.Cable.{Cable}
use Rattle.view_text.specs.Cable.{cables}
use Rattle.bus_diff.specs.declared.pair.Pair.{Pair}
use Rattle.bus_diff.specs.declared.change.Change.{Change}
use Rattle.bus_diff.specs.declared.change.Change.TheVariants.{Went, Came, Moved, Value, Root, Manager}
use Rattle.bus_diff.specs.declared.change.Quality.{Quality}
use Rattle.bus_diff.specs.declared.change.Quality.TheVariants.{Link, Gap, Speed, Contender, Power}
use Rattle.bus_diff.specs.Matching.{stays, stood, is_one}

-- ---- cables

-- the cable on which a node hangs: that to its parent; none at the root
abbrev pub hangs_on : List Cable → ℕ → Option Cable
hangs_on cables id = find (λ c. c.child == id) cables

-- a cable of the old bus and one of the new bus join the same ports of the same nodes, whichever of them is nearer
-- to the root
abbrev pub is_same_cable : List Pair → Cable → Cable → Bool
is_same_cable pairs c d =
    (is_one pairs c.parent d.parent && (is_one pairs c.child d.child
    && ((c.port == d.port) && (c.child_port == d.child_port))))
    || (is_one pairs c.parent d.child && (is_one pairs c.child d.parent
    && ((c.port == d.child_port) && (c.child_port == d.port))))

-- a cable of the old bus is in the new one
abbrev pub stays_plugged : List Pair → List Cable → Cable → Bool
stays_plugged pairs new c = list_any (λ d. is_same_cable pairs c d) new

-- a cable of the new bus was in the old one
abbrev pub was_plugged : List Pair → List Cable → Cable → Bool
was_plugged pairs old d = list_any (λ c. is_same_cable pairs c d) old

-- the same where there is one, and it isn't in the new bus
abbrev pub if_pulled : List Pair → List Cable → Option Cable → Option Cable
if_pulled pairs new None = None
if_pulled pairs new (Some c) = if stays_plugged pairs new c then None else Some c

-- or wasn't in the old one
abbrev pub if_plugged : List Pair → List Cable → Option Cable → Option Cable
if_plugged pairs old None = None
if_plugged pairs old (Some d) = if was_plugged pairs old d then None else Some d

-- the cable on which a node of the old bus hangs, if it isn't in the new one
abbrev pub pulled : List Pair → List Cable → List Cable → ℕ → Option Cable
pulled pairs old new id = if_pulled pairs new (hangs_on old id)

-- the cable on which a node of the new bus hangs, if it wasn't in the old one
abbrev pub plugged : List Pair → List Cable → List Cable → ℕ → Option Cable
plugged pairs old new id = if_plugged pairs old (hangs_on new id)

-- ---- attributes

abbrev pub value_of : Quality → Attrs → ℕ
value_of Link a = truth a.link
value_of Gap a = a.gap
value_of Speed a = a.speed
value_of Contender a = truth a.contender
value_of Power a = a.power

-- the node with this ID says so of itself
abbrev pub Says : List Node → ℕ → Quality → ℕ → Type 0
Says nodes id quality value = IsSomeAnd (slice_get nodes id) (λ n. value_of quality n.attrs ≡ value)

-- ---- roles

-- these may be IDs of one node, or there is none in both buses
abbrev pub is_one_or_none : List Pair → Option ℕ → Option ℕ → Bool
is_one_or_none pairs None None = true
is_one_or_none pairs None (Some new) = false
is_one_or_none pairs (Some old) None = false
is_one_or_none pairs (Some old) (Some new) = is_one pairs old new

-- ---- what is told

-- this is so of the old bus and the new one, and differs
abbrev pub IsChange : Tree → Tree → List Pair → Change → Type 0
IsChange old new pairs (Went id cable) =
    (id < length (walk old)) × (stays pairs id ≡ false) × (cable ≡ hangs_on (cables old) id)
IsChange old new pairs (Came id cable) =
    (id < length (walk new)) × (stood pairs id ≡ false) × (cable ≡ hangs_on (cables new) id)
IsChange old new pairs (Moved p from to) =
    Contains pairs p × (from ≡ pulled pairs (cables old) (cables new) p.old)
    × (to ≡ plugged pairs (cables old) (cables new) p.new) × IsTrue (is_some from || is_some to)
IsChange old new pairs (Value p quality from to) =
    Contains pairs p × Says (walk old) p.old quality from × Says (walk new) p.new quality to
    × (from ≢ to)
IsChange old new pairs (Root from to) =
    (from + 1 ≡ length (walk old)) × (to + 1 ≡ length (walk new)) × (is_one pairs from to ≡ false)
IsChange old new pairs (Manager from to) =
    (from ≡ elected old) × (to ≡ elected new) × (is_one_or_none pairs from to ≡ false)

-- exactly the changes are told
abbrev pub AreChanges : Tree → Tree → List Pair → List Change → Type 0
AreChanges old new pairs told =
    ((change : Change) → Contains told change → IsChange old new pairs change)
    × ((change : Change) → IsChange old new pairs change → Contains told change)
