-- The changes as text: a line for each.
use Rattle.std.specs.Prelude.{ℕ, ◌==◌, Bool, false, if◌then◌else◌, Option, Some, None, List, [], ◌∷◌, ◌++◌, codes}
use Rattle.view_text.specs.declared.cable.Cable.{Cable}
use Rattle.view_text.specs.Packet.{field}
use Rattle.bus_diff.specs.declared.pair.Pair.{Pair}
use Rattle.bus_diff.specs.declared.change.Change.{Change}
use Rattle.bus_diff.specs.declared.change.Change.TheVariants.{Went, Came, Moved, Value, Root, Manager}
use Rattle.bus_diff.specs.declared.change.Quality.{Quality}
use Rattle.bus_diff.specs.declared.change.Quality.TheVariants.{Link, Gap, Speed, Contender, Power}

-- ` port R of node P on its port Q`: where a node hangs, behind a word
unfoldable pub place : List ℕ → Cable → List ℕ
place word c =
    word ++ (field (codes " port ") c.port ++ (field (codes " of node ") c.parent
    ++ field (codes " on its port ") c.child_port))

-- the same, or another word where it is the root
abbrev pub place_or : List ℕ → List ℕ → Option Cable → List ℕ
place_or word alone None = alone
place_or word alone (Some c) = place word c

-- `node O now N`, or `node O` where its ID is the same
unfoldable pub pair_words : Pair → List ℕ
pair_words p =
    if p.old == p.new then field (codes "node ") p.old
    else field (codes "node ") p.old ++ field (codes " now ") p.new

-- from where to where a node moved
abbrev pub move_words : Option Cable → Option Cable → List ℕ
move_words None None = []
move_words (Some c) None = place (codes " left") c
move_words None (Some d) = place (codes " joined") d
move_words (Some c) (Some d) = place (codes " moved from") c ++ place (codes " to") d

abbrev pub quality_word : Quality → List ℕ
quality_word Link = codes " link "
quality_word Gap = codes " gap "
quality_word Speed = codes " speed "
quality_word Contender = codes " contender "
quality_word Power = codes " power "

-- `gap G now H`
unfoldable pub value_words : Quality → ℕ → ℕ → List ℕ
value_words quality from to = field (quality_word quality) from ++ field (codes " now ") to

-- whether both are one ID
abbrev pub is_same : Option ℕ → Option ℕ → Bool
is_same (Some from) (Some to) = from == to
is_same _ _ = false

abbrev pub manager_word : List ℕ → Option ℕ → List ℕ
manager_word word None = word ++ codes "none"
manager_word word (Some id) = field word id

-- `root old O new N`, or that another node is the root, which has the same ID
unfoldable pub root_words : ℕ → ℕ → List ℕ
root_words from to =
    if from == to then field (codes "root is another node, again ") from
    else field (codes "root old ") from ++ field (codes " new ") to

-- `irm old O new N`, and so again
unfoldable pub irm_words : Option ℕ → Option ℕ → List ℕ
irm_words from to =
    if is_same from to then manager_word (codes "irm is another node, again ") from
    else manager_word (codes "irm old ") from ++ manager_word (codes " new ") to

-- the words of a change
abbrev pub change_words : Change → List ℕ
change_words (Went id cable) =
    field (codes "node ") id ++ place_or (codes " went from") (codes " went") cable
change_words (Came id cable) =
    field (codes "node ") id ++ place_or (codes " came to") (codes " came") cable
change_words (Moved p from to) = pair_words p ++ move_words from to
change_words (Value p quality from to) = pair_words p ++ value_words quality from to
change_words (Root from to) = root_words from to
change_words (Manager from to) = irm_words from to

unfoldable pub change_line : Change → List ℕ
change_line change = change_words change ++ codes "\n"

-- a line for each change, in their order
abbrev pub changes_text : List Change → List ℕ
changes_text [] = []
changes_text (change ∷ changes) = change_line change ++ changes_text changes
