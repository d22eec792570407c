-- What differs between two buses as a list, in its order.
use Rattle.std.specs.Prelude.{ℕ, zero, suc, ◌-◌, ◌==◌, ◌||◌, is_some, if◌then◌else◌, Option, Some, None, List, [], ◌∷◌, ◌++◌, length, slice_get}
use Rattle.self_id.specs.declared.node.Attrs.{Attrs}
use Rattle.self_id.specs.Node.{Node}
use Rattle.topology_stack.specs.Tree.{Tree, walk}
use Rattle.topology_stack.specs.Elect.{elected}
use Rattle.view_text.specs.declared.cable.Cable.{Cable}
use Rattle.view_text.specs.Cable.{cables}
use Rattle.bus_diff.specs.declared.pair.Pair.{Pair}
use Rattle.bus_diff.specs.declared.change.Change.{Change}
use Rattle.bus_diff.specs.declared.change.Change.TheVariants.{Went, Came, Moved, Value, Root, Manager}
use Rattle.bus_diff.specs.declared.change.Quality.{Quality}
use Rattle.bus_diff.specs.declared.change.Quality.TheVariants.{Link, Gap, Speed, Contender, Power}
use Rattle.bus_diff.specs.Matching.{stays, stood, is_one}
use Rattle.bus_diff.specs.Change.{hangs_on, pulled, plugged, value_of, is_one_or_none}
use Rattle.bus_diff.specs.Along.{matched}

-- the node of the old bus with this ID, where it went
abbrev pub if_gone : List Cable → List Pair → ℕ → List Change
if_gone cables pairs id = if stays pairs id then [] else Went id (hangs_on cables id) ∷ []

-- those with IDs below this one, by rising ID
abbrev pub gone : List Cable → List Pair → ℕ → List Change
gone cables pairs zero = []
gone cables pairs (suc id) = gone cables pairs id ++ if_gone cables pairs id

-- the node of the new bus with this ID, where it came
abbrev pub if_come : List Cable → List Pair → ℕ → List Change
if_come cables pairs id = if stood pairs id then [] else Came id (hangs_on cables id) ∷ []

abbrev pub come : List Cable → List Pair → ℕ → List Change
come cables pairs zero = []
come cables pairs (suc id) = come cables pairs id ++ if_come cables pairs id

-- the node of a pair, where it moved
abbrev pub move : Pair → Option Cable → Option Cable → List Change
move p from to = if is_some from || is_some to then Moved p from to ∷ [] else []

abbrev pub if_moved : List Pair → List Cable → List Cable → Pair → List Change
if_moved pairs old new p = move p (pulled pairs old new p.old) (plugged pairs old new p.new)

-- those of these pairs, in their order
abbrev pub moved : List Pair → List Cable → List Cable → List Pair → List Change
moved pairs old new [] = []
moved pairs old new (p ∷ ps) = if_moved pairs old new p ++ moved pairs old new ps

-- a value, where it is another
abbrev pub if_other : Pair → Attrs → Attrs → Quality → List Change
if_other p a b quality =
    if value_of quality a == value_of quality b then []
    else Value p quality (value_of quality a) (value_of quality b) ∷ []

abbrev pub other_attrs : Pair → Attrs → Attrs → List Change
other_attrs p a b =
    if_other p a b Link ++ (if_other p a b Gap ++ (if_other p a b Speed
    ++ (if_other p a b Contender ++ if_other p a b Power)))

abbrev pub other_values : Pair → Option Node → Option Node → List Change
other_values p None n = []
other_values p (Some m) None = []
other_values p (Some m) (Some n) = other_attrs p m.attrs n.attrs

abbrev pub values_at : List Node → List Node → Pair → List Change
values_at old new p = other_values p (slice_get old p.old) (slice_get new p.new)

-- those of these pairs, in their order
abbrev pub values : List Node → List Node → List Pair → List Change
values old new [] = []
values old new (p ∷ ps) = values_at old new p ++ values old new ps

-- the root and the manager, where they are others
abbrev pub if_rooted : List Pair → ℕ → ℕ → List Change
if_rooted pairs from to = if is_one pairs from to then [] else Root from to ∷ []

abbrev pub if_managed : List Pair → Option ℕ → Option ℕ → List Change
if_managed pairs from to = if is_one_or_none pairs from to then [] else Manager from to ∷ []

-- Who went, who came, who moved, whose values are others, and then the root and the manager.
abbrev pub changes : Tree → Tree → List Pair → List Change
changes old new pairs =
    gone (cables old) pairs (length (walk old)) ++ (come (cables new) pairs (length (walk new))
    ++ (moved pairs (cables old) (cables new) pairs ++ (values (walk old) (walk new) pairs
    ++ (if_rooted pairs (length (walk old) - 1) (length (walk new) - 1)
    ++ if_managed pairs (elected old) (elected new)))))

-- what differs between two buses whose nodes are matched along ports
unfoldable pub changes_along : Tree → Tree → List Change
changes_along old new = changes old new (matched old new)
