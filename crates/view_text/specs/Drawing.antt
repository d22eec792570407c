-- The drawing of a bus tree: the line of its root, and then the trees below the root's slots, the lowest slot's
-- first. Each tree hangs on its cable, and is drawn in the same way.
use Rattle.std.specs.Prelude.{◌≡◌, ℕ, ◌+◌, ◌-◌, ◌==◌, ◌&&◌, nat_lt, min, Bool, true, if◌then◌else◌, Option, Some, List, [], ◌∷◌, ◌++◌, length, slice_get, codes}
use Rattle.self_id.specs.Node.{Node, downs}
use Rattle.topology_stack.specs.Tree.{Tree, branch, Slots, no_more, absent, unplugged, up, down, statuses, node_of, walk, walk_below}
use Rattle.topology_stack.specs.Elect.{elected}
use Rattle.speed_map.specs.Path.{node_speed}
use Rattle.bus_manager.specs.Hops.{IsHops}
use Rattle.bus_manager.specs.Gap.{gap_of}
use Rattle.view_text.specs.Packet.{field}
use Rattle.view_text.specs.Cable.{first_up}
use Rattle.view_text.specs.Node.{title, link_words, gap_words, speed_word}

-- a node's words, behind its branch
abbrev pub node_words : ℕ → Node → ℕ → Option ℕ → List ℕ
node_words id n root irm =
    title id root irm
    ++ (codes " " ++ (link_words n.attrs ++ (codes " " ++ (gap_words n.attrs ++ codes "\n"))))

-- `[PORT]--SPEED--[PORT] `: a cable, its parent's end first
unfoldable pub cable_text : ℕ → ℕ → ℕ → List ℕ
cable_text port speed child_port =
    field (codes "[") port ++ (codes "]--" ++ (speed_word speed
    ++ (field (codes "--[") child_port ++ codes "] ")))

-- the cable from a port of a node to a child: its speed is the less of both nodes'
abbrev pub cable_of : Node → ℕ → Node → List ℕ
cable_of n port child =
    cable_text port (min (node_speed n) (node_speed child)) (first_up 0 child.ports)

-- another of these slots leads to a child, so that a branch goes on downwards
abbrev pub goes_on : Slots → Bool
goes_on s = nat_lt 0 (downs (statuses s))

-- what stands before a cable, and before the lines below its child
abbrev pub corner : Bool → List ℕ
corner on = if on then codes "+--" else codes "`--"

abbrev pub bar : Bool → List ℕ
bar on = if on then codes "|  " else codes "   "

abbrev pub outermost : Tree → Node
outermost (branch a s) = node_of a s

-- A tree whose IDs begin at `from`: the line of its outermost node, and the trees below its slots. `margin` is
-- what stands before each line but the first.
abbrev mutual
  pub tree_lines : List ℕ → ℕ → Option ℕ → ℕ → Tree → List ℕ
  tree_lines margin root irm from (branch a s) =
      node_words (from + length (walk_below s)) (node_of a s) root irm
      ++ slot_lines margin root irm (node_of a s) 0 from s

  -- the trees below slots of a node, counted from `slot`
  pub slot_lines : List ℕ → ℕ → Option ℕ → Node → ℕ → ℕ → Slots → List ℕ
  slot_lines margin root irm n slot from no_more = []
  slot_lines margin root irm n slot from (absent s) =
      slot_lines margin root irm n (slot + 1) from s
  slot_lines margin root irm n slot from (unplugged s) =
      slot_lines margin root irm n (slot + 1) from s
  slot_lines margin root irm n slot from (up s) =
      slot_lines margin root irm n (slot + 1) from s
  slot_lines margin root irm n slot from (down t s) =
      margin ++ (corner (goes_on s) ++ (cable_of n slot (outermost t)
      ++ (tree_lines (margin ++ bar (goes_on s)) root irm from t
      ++ slot_lines margin root irm n (slot + 1) (from + length (walk t)) s)))

-- ---- below the drawing

-- what the table has for so many hops
unfoldable pub table_gap : ℕ → List ℕ
table_gap hops = field (codes ", gap count ") (gap_of hops) ++ codes " by the table\n"

-- a node alone needs no gap count, and the table ends at 15 hops
abbrev pub hops_words : ℕ → List ℕ
hops_words hops =
    if hops == 0 then codes ", any gap count will do\n"
    else (if nat_lt 15 hops then codes ", more than the 15 of the table\n" else table_gap hops)

-- `hops H`, and which gap count suits them
unfoldable pub hops_line : ℕ → List ℕ
hops_line hops = field (codes "hops ") hops ++ hops_words hops

abbrev pub all_have : ℕ → List Node → Bool
all_have gap [] = true
all_have gap (n ∷ ns) = (n.attrs.gap == gap) && all_have gap ns

-- `, G at node ID`, where the node has another gap count
unfoldable pub other : ℕ → ℕ → ℕ → List ℕ
other gap id found =
    if found == gap then [] else field (codes ", ") found ++ field (codes " at node ") id

abbrev pub others : ℕ → ℕ → List Node → List ℕ
others gap id [] = []
others gap id (n ∷ ns) = other gap id n.attrs.gap ++ others gap (id + 1) ns

-- `, more than the table's G: safe, only slower`
unfoldable pub more_words : ℕ → List ℕ
more_words table = field (codes ", more than the table's ") table ++ codes ": safe, only slower\n"

-- `, less than the table's G: too small`
unfoldable pub less_words : ℕ → List ℕ
less_words table = field (codes ", less than the table's ") table ++ codes ": too small\n"

-- a larger gap count than the table's is safe, and a smaller one is not
abbrev pub beside_table : ℕ → ℕ → List ℕ
beside_table gap table =
    if gap == table then codes ", as by the table\n"
    else (if nat_lt table gap then more_words table else less_words table)

-- past the table's end less than its last entry is too small; of no other is it known to be enough
abbrev pub past_table : ℕ → List ℕ
past_table gap =
    if gap == 63 then codes ", the greatest there is\n"
    else (if nat_lt gap 40 then codes ", less than the table's 40 for 15 hops: too small\n"
    else codes ", less than 63, the greatest: may be too small\n")

-- what is said of a gap count on which all nodes agree
abbrev pub gap_verdict : ℕ → ℕ → List ℕ
gap_verdict gap hops =
    if hops == 0 then codes "\n"
    else (if nat_lt 15 hops then past_table gap else beside_table gap (gap_of hops))

unfoldable pub agree_line : ℕ → ℕ → List ℕ
agree_line gap hops = field (codes "gap counts agree: ") gap ++ gap_verdict gap hops

unfoldable pub differ_line : ℕ → List Node → List ℕ
differ_line gap ns =
    field (codes "gap counts differ: ") gap
    ++ (codes " at the root" ++ (others gap 0 ns ++ codes "\n"))

-- whether the nodes' gap counts agree with the root's, and if so whether that one suits the hops
abbrev pub gap_line : ℕ → ℕ → List Node → List ℕ
gap_line gap hops ns = if all_have gap ns then agree_line gap hops else differ_line gap ns

-- the root of a tree is the last of its walk
abbrev pub IsRoot : Tree → Node → Type 0
IsRoot t root = slice_get (walk t) (length (walk t) - 1) ≡ Some root

abbrev pub drawing : Tree → ℕ → ℕ → List ℕ
drawing t hops gap =
    tree_lines [] (length (walk t) - 1) (elected t) 0 t
    ++ (hops_line hops ++ gap_line gap hops (walk t))

-- the drawing of a tree, with its hops and the gap count of its root below
pub record IsDrawing (t : Tree) (text : List ℕ) : Type 0 where
  pub hops : ℕ
  pub root : Node
  pub are_hops : IsHops t hops
  pub is_root : IsRoot t root
  pub text_is : text ≡ drawing t hops root.attrs.gap
