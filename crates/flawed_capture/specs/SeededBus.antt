-- The bus that a seed makes of a number of nodes: a word says its shape, one its gap count, and from the first
-- node on each node has its words.
use Rattle.std.specs.Prelude.{ℕ, zero, suc, ◌+◌, ◌-◌, ◌%◌, ◌==◌, nat_lt, min, max, Bool, if◌then◌else◌, List, [], ◌++◌}
use Rattle.rand_pcg.specs.Lcg.{Lcg}
use Rattle.self_id.specs.declared.standard.Standard.{Standard}
use Rattle.flawed_capture.specs.declared.made.Plan.{Plan}
use Rattle.flawed_capture.specs.declared.made.Shape.{Shape}
use Rattle.flawed_capture.specs.declared.made.Shape.TheVariants.{Line, Star, Hubs, Random}
use Rattle.flawed_capture.specs.Draws.{generator, word, behind}
use Rattle.flawed_capture.specs.SeededNode.{Slots, most_slots, slots_of, group_by}

-- ---- how the nodes are joined

unfoldable pub shape_by : ℕ → Shape
shape_by w =
    if w % 4 == 0 then Line else if w % 4 == 1 then Star else if w % 4 == 2 then Hubs else Random

-- how many of the trees that wait for a parent a node takes that has a parent itself: as many as the shape
-- wants, but never do more wait than a root has slots
abbrev pub wanted_children : Shape → ℕ → ℕ → ℕ → ℕ
wanted_children Line waiting most w = 1
wanted_children Star waiting most w = 0
wanted_children Hubs waiting most w = if nat_lt waiting (most - 1) then 0 else most - 1
wanted_children Random waiting most w = w % 4

unfoldable pub children_by : Shape → ℕ → ℕ → ℕ → ℕ
children_by shape waiting most w =
    min (max (wanted_children shape waiting most w) (if nat_lt waiting most then 0 else 1)) waiting

-- ---- lists

-- the packets of the first nodes, the trees that wait for a parent, and the generator behind them
pub record Made : Type 0 where
  pub list : List ℕ
  pub waiting : ℕ
  pub words : Lcg

-- the root takes all, and needs no word for it
abbrev pub children_of : Plan → Bool → ℕ → Lcg → ℕ
children_of plan is_root waiting g =
    if is_root then waiting
    else children_by plan.shape waiting (most_slots plan.standard) (word g)

abbrev pub words_of : Bool → Lcg → Lcg
words_of is_root g = if is_root then g else behind g

abbrev pub with_slots : ℕ → ℕ → ℕ → Slots → Made → Made
with_slots gap id children slots made = record {
  list = made.list ++ group_by gap id slots;
  waiting = made.waiting + 1 - children;
  words = behind slots.words;
}

abbrev pub with_children : Plan → ℕ → Bool → ℕ → Made → Made
with_children plan id is_root children made =
    with_slots plan.gap id children
    (slots_of plan.standard children is_root (words_of is_root made.words)) made

abbrev pub with_node_if : Plan → ℕ → Bool → Made → Made
with_node_if plan id is_root made =
    with_children plan id is_root (children_of plan is_root made.waiting made.words) made

-- the node with this ID is the root if it is the last one
unfoldable pub with_node : Plan → ℕ → Made → Made
with_node plan id made = with_node_if plan id (id + 1 == plan.nodes) made

abbrev pub first_nodes : Plan → Lcg → ℕ → Made
first_nodes plan g zero = record { list = []; waiting = 0; words = g }
first_nodes plan g (suc n) = with_node plan n (first_nodes plan g n)

abbrev pub plan_by : Standard → ℕ → ℕ → ℕ → Plan
plan_by standard nodes w gap =
    record { standard = standard; nodes = nodes; shape = shape_by w; gap = gap % 64 }

unfoldable pub made_by : Standard → ℕ → Lcg → Made
made_by standard nodes g =
    first_nodes (plan_by standard nodes (word g) (word (behind g))) (behind (behind g)) nodes

-- the bus that a seed makes
abbrev pub made_bus : Standard → ℕ → ℕ → Made
made_bus standard nodes seed = made_by standard nodes (generator seed)
