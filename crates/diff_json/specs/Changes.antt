-- The value of what differs between two buses: what a program is told of it.
use Rattle.std.specs.Prelude.{ℕ, Option, Some, None, List, [], ◌∷◌, Bool, codes, nat_eq}
use Rattle.view_text.specs.declared.cable.Cable.{Cable}
use Rattle.bus_diff.specs.declared.pair.Pair.{Pair}
use Rattle.bus_diff.specs.declared.change.Change.{Change}
use Rattle.bus_diff.specs.declared.change.Change.TheVariants.{Went, Came, Moved, Value, Root, Manager}
use Rattle.bus_diff.specs.declared.change.Quality.{Quality}
use Rattle.bus_diff.specs.declared.change.Quality.TheVariants.{Link, Gap, Speed, Contender, Power}
use Rattle.json.specs.Json.{Json, null, boolean, string, array, object, Items, no_items, item, Members, no_members, member}
use Rattle.bus_json.specs.Text.{numeral}
use Rattle.bus_json.specs.Bus.{with_schema, manager_value}

-- where a node hangs: the node above it and its port, and the node's own port; null where it is the root
abbrev pub place_value : Option Cable → Json
place_value None = null
place_value (Some c) =
    object (member (codes "parent") (numeral c.parent)
    (member (codes "port") (numeral c.port)
    (member (codes "on") (numeral c.child_port) no_members)))

-- a node that is in both buses, by its IDs, and then more
abbrev pub pair_members : Pair → Members → Members
pair_members p rest = member (codes "old") (numeral p.old) (member (codes "new") (numeral p.new) rest)

abbrev pub quality_name : Quality → List ℕ
quality_name Link = codes "link"
quality_name Gap = codes "gap"
quality_name Speed = codes "speed"
quality_name Contender = codes "contender"
quality_name Power = codes "power"

-- what a node says of itself: a bit is true or false
abbrev pub quality_value : Quality → ℕ → Json
quality_value Link n = boolean (nat_eq n 1)
quality_value Gap n = numeral n
quality_value Speed n = numeral n
quality_value Contender n = boolean (nat_eq n 1)
quality_value Power n = numeral n

-- a change begins with the word for what it is
abbrev pub change_of : List ℕ → Members → Json
change_of word members = object (member (codes "change") (string word) members)

abbrev pub change_value : Change → Json
change_value (Went id cable) =
    change_of (codes "went") (member (codes "old") (numeral id)
    (member (codes "from") (place_value cable) no_members))
change_value (Came id cable) =
    change_of (codes "came") (member (codes "new") (numeral id)
    (member (codes "to") (place_value cable) no_members))
change_value (Moved p from to) =
    change_of (codes "moved") (pair_members p
    (member (codes "from") (place_value from) (member (codes "to") (place_value to) no_members)))
change_value (Value p quality from to) =
    change_of (quality_name quality) (pair_members p
    (member (codes "from") (quality_value quality from)
    (member (codes "to") (quality_value quality to) no_members)))
change_value (Root from to) =
    change_of (codes "root") (member (codes "old") (numeral from)
    (member (codes "new") (numeral to) no_members))
change_value (Manager from to) =
    change_of (codes "manager") (member (codes "old") (manager_value from)
    (member (codes "new") (manager_value to) no_members))

-- the changes in their order
abbrev pub change_items : List Change → Items
change_items [] = no_items
change_items (change ∷ changes) = item (change_value change) (change_items changes)

abbrev pub changes_members : List Change → Members
changes_members changes = member (codes "changes") (array (change_items changes)) no_members

abbrev pub changes_value : List Change → Json
changes_value changes = with_schema (changes_members changes)
