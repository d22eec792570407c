-- The parts of a tree, where they stand in the whole, and a node's slots from one on. No public contract cites
-- this file.
use Rattle.std.specs.Prelude.{◌≡◌, ℕ, zero, suc, ◌+◌, ◌-◌, Option, Some, None, List, ◌++◌, length, slice_get, codes}
use Rattle.self_id.specs.declared.node.Attrs.{Attrs}
use Rattle.topology_stack.specs.Text.{truth}
use Rattle.view_text.specs.Packet.{field}
use Rattle.topology_stack.specs.Tree.{Label, Tree, branch, Slots, no_more, absent, unplugged, up, down, walk, walk_below}
use Rattle.topology_stack.specs.Far.{ends_from, ends}
use Rattle.view_text.specs.Drawing.{tree_lines}

-- a part of a list stands in the whole from a place on
abbrev pub Has : {A : Type 0} → List A → ℕ → List A → Type 0
Has {A} whole first part =
    (i : ℕ) (x : A) → slice_get part i ≡ Some x → slice_get whole (first + i) ≡ Some x

-- so does a tree below a parent, whose IDs begin at `first`, with its nodes and the ends of their slots
pub record HasPart (t : Tree) (first parent : ℕ) (part : Tree) : Type 0 where
  pub nodes : Has (walk t) first (walk part)
  pub ends_too : Has (ends t) first (ends_from first parent part)

-- ---- slots

-- the slots behind the first, and how many nodes stand below that
abbrev pub next : Slots → Slots
next no_more = no_more
next (absent s) = s
next (unplugged s) = s
next (up s) = s
next (down t s) = s

abbrev pub below : Slots → ℕ
below no_more = 0
below (absent s) = 0
below (unplugged s) = 0
below (up s) = 0
below (down t s) = length (walk t)

-- the slots from one on, and how many nodes stand below those before it
abbrev pub rest : ℕ → Slots → Slots
rest zero s = s
rest (suc k) s = next (rest k s)

abbrev pub skipped : ℕ → Slots → ℕ
skipped zero s = 0
skipped (suc k) s = skipped k s + below (rest k s)

-- the child below the first slot
abbrev pub first_child : ℕ → Slots → Option ℕ
first_child from no_more = None
first_child from (absent s) = None
first_child from (unplugged s) = None
first_child from (up s) = None
first_child from (down t s) = Some (from + length (walk t) - 1)

-- ---- what the drawing of a part has to be

abbrev pub IsChildAt : Tree → ℕ → ℕ → Option ℕ → Type 0
IsChildAt t id slot child =
    (from parent : ℕ) (a : Label) (s : Slots) → HasPart t from parent (branch a s) →
    id ≡ from + length (walk_below s) → child ≡ first_child (from + skipped slot s) (rest slot s)

-- the lines of the part whose outermost node has this ID are appended
abbrev pub AppendsPart : Tree → List ℕ → Option ℕ → ℕ → List ℕ → List ℕ → Type 0
AppendsPart t margin irm id old new =
    (from parent : ℕ) (part : Tree) → HasPart t from parent part →
    id + 1 ≡ from + length (walk part) → new ≡ old ++ tree_lines margin (length (walk t) - 1) irm from part

-- ---- the words of a node

-- what stands before a node's gap count
unfoldable pub gap_front : Attrs → List ℕ
gap_front a =
    field (codes "initiated ") (truth a.initiated) ++ (field (codes " speed ") a.speed ++ codes " gap ")
