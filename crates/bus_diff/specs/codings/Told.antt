-- What each part of the comparison adds to the changes. No public contract cites this file.
use Rattle.std.specs.Prelude.{◌≡◌, ◌≢◌, ◌⊎◌, ℕ, ◌<◌, ◌||◌, false, IsTrue, is_some, Contains, Option, List}
use Rattle.self_id.specs.declared.node.Attrs.{Attrs}
use Rattle.self_id.specs.Node.{Node}
use Rattle.view_text.specs.declared.cable.Cable.{Cable}
use Rattle.bus_diff.specs.declared.pair.Pair.{Pair}
use Rattle.bus_diff.specs.declared.change.Change.{Change}
use Rattle.bus_diff.specs.declared.change.Change.TheVariants.{Went, Came, Moved, Value, Root, Manager}
use Rattle.bus_diff.specs.declared.change.Quality.{Quality}
use Rattle.bus_diff.specs.Matching.{stays, stood, is_one}
use Rattle.bus_diff.specs.Change.{hangs_on, pulled, plugged, value_of, Says, is_one_or_none}

-- exactly these changes are added
abbrev pub Adds : List Change → List Change → (Change → Type 0) → Type 0
Adds old new P =
    ((c : Change) → Contains new c → Contains old c ⊎ P c)
    × ((c : Change) → Contains old c ⊎ P c → Contains new c)

-- this is told at some place before this one
abbrev pub Below : (ℕ → Change → Type 0) → ℕ → Change → Type 0
Below P n c = (k : ℕ) × (k < n) × P k c

-- the node of the old bus with this ID went
abbrev pub IsGoneAt : List Cable → List Pair → ℕ → Change → Type 0
IsGoneAt cables pairs id c = (stays pairs id ≡ false) × (c ≡ Went id (hangs_on cables id))

-- the node of the new bus with this ID came
abbrev pub IsNewAt : List Cable → List Pair → ℕ → Change → Type 0
IsNewAt cables pairs id c = (stood pairs id ≡ false) × (c ≡ Came id (hangs_on cables id))

-- the node of a pair moved
abbrev pub IsMoveOf : List Pair → List Cable → List Cable → Pair → Change → Type 0
IsMoveOf pairs old new p c =
    IsTrue (is_some (pulled pairs old new p.old) || is_some (plugged pairs old new p.new))
    × (c ≡ Moved p (pulled pairs old new p.old) (plugged pairs old new p.new))

-- it says another value of itself
abbrev pub IsValueOf : Pair → Attrs → Attrs → Quality → Change → Type 0
IsValueOf p a b quality c =
    (value_of quality a ≢ value_of quality b)
    × (c ≡ Value p quality (value_of quality a) (value_of quality b))

-- one of its values is another
abbrev pub IsSomeValueOf : Pair → Attrs → Attrs → Change → Type 0
IsSomeValueOf p a b c = (quality : Quality) × IsValueOf p a b quality c

abbrev pub IsValueAt : List Node → List Node → Pair → Change → Type 0
IsValueAt old new p c =
    (quality : Quality) × (from : ℕ) × (to : ℕ) × Says old p.old quality from
    × Says new p.new quality to × (from ≢ to) × (c ≡ Value p quality from to)

-- this is told of one of these pairs
abbrev pub OfSome : List Pair → (Pair → Change → Type 0) → Change → Type 0
OfSome pairs P c = (p : Pair) × Contains pairs p × P p c

-- of the roots and of the managers
abbrev pub IsRootChange : List Pair → ℕ → ℕ → Change → Type 0
IsRootChange pairs from to c = (is_one pairs from to ≡ false) × (c ≡ Root from to)

abbrev pub IsManagerChange : List Pair → Option ℕ → Option ℕ → Change → Type 0
IsManagerChange pairs from to c = (is_one_or_none pairs from to ≡ false) × (c ≡ Manager from to)
