-- Which node of one bus is which of another, where both are walked along ports of the same numbers.
use Rattle.std.specs.Prelude.{◌≡◌, ◌⊎◌, ℕ, zero, suc, ◌<◌, ◌≤◌, min, Bool, false, not, ◌==◌, ◌&&◌, ◌||◌, nat_lt, if◌then◌else◌, find, option_to_list, Contains, Option, Some, None, List, [], ◌∷◌, ◌++◌, map, reverse, length, slice_get}
use Rattle.self_id.specs.Node.{Node}
use Rattle.topology_stack.specs.Tree.{Tree, walk, IsBusTree}
use Rattle.view_text.specs.declared.cable.Cable.{Cable}
use Rattle.view_text.specs.Cable.{cables}
use Rattle.bus_diff.specs.declared.pair.Pair.{Pair}
use Rattle.bus_diff.specs.Matching.{port_count, stays, stood}

-- ---- pairs

abbrev pub ports_of : Option Node → Option ℕ
ports_of None = None
ports_of (Some n) = Some (port_count n.ports)

abbrev pub is_same_count : Option ℕ → Option ℕ → Bool
is_same_count None b = false
is_same_count (Some a) None = false
is_same_count (Some a) (Some b) = a == b

-- two nodes may be one: both are there and in no pair yet, and have as many ports as each other
abbrev pub may_be_one : Tree → Tree → List Pair → Pair → Bool
may_be_one old new pairs p =
    not (stays pairs p.old) && (not (stood pairs p.new)
    && is_same_count (ports_of (slice_get (walk old) p.old)) (ports_of (slice_get (walk new) p.new)))

-- with this pair more, where its nodes may be one
abbrev pub with_pair : Tree → Tree → List Pair → Pair → List Pair
with_pair old new pairs p = if may_be_one old new pairs p then pairs ++ p ∷ [] else pairs

-- the pair of the node of the old bus with this ID
abbrev pub pair_of : List Pair → ℕ → Option Pair
pair_of pairs id = find (λ p. p.old == id) pairs

-- ---- a step along a cable

-- the same cable, told from its other end
abbrev pub turned : Cable → Cable
turned c = record {
  parent = c.child;
  port = c.child_port;
  child = c.parent;
  child_port = c.port;
  speed = c.speed;
}

-- a cable leads from this node, by ports of the same numbers as another cable does from its parent to its child
abbrev pub leads_so : Cable → ℕ → Cable → Bool
leads_so c id d =
    ((d.parent == id) && ((d.port == c.port) && (d.child_port == c.child_port)))
    || ((d.child == id) && ((d.child_port == c.port) && (d.port == c.child_port)))

-- the node at a cable's other end
abbrev pub other_end : ℕ → Option Cable → Option ℕ
other_end id None = None
other_end id (Some d) = Some (if d.parent == id then d.child else d.parent)

-- the node of the new bus to which a cable of the old bus leads from a pair
abbrev pub led_to : List Cable → Cable → Option Pair → Option ℕ
led_to far c None = None
led_to far c (Some p) = other_end p.new (find (λ d. leads_so c p.new d) far)

abbrev pub with_led : Tree → Tree → List Pair → ℕ → Option ℕ → List Pair
with_led old new pairs id None = pairs
with_led old new pairs id (Some other) = with_pair old new pairs (record { old = id; new = other })

-- the pairs behind a step along a cable of the old bus, from its parent to its child; `far` are the cables of the
-- new bus
abbrev pub stepped : Tree → Tree → List Cable → List Pair → Cable → List Pair
stepped old new far pairs c =
    with_led old new pairs c.child (led_to far c (pair_of pairs c.parent))

-- ---- all nodes along ports

-- behind a step along each of these cables
abbrev pub walked : Tree → Tree → List Cable → List Pair → List Cable → List Pair
walked old new far pairs [] = pairs
walked old new far pairs (c ∷ cs) = walked old new far (stepped old new far pairs c) cs

-- Each cable from its child, those of the nearest to the leaves first, and then each from its parent, the other way
-- round. So each node comes after those between it and the node from which the walk begins.
abbrev pub ways : List Cable → List Cable
ways cs = map turned cs ++ reverse cs

-- the pairs of nodes that are reached along the same ports from the two nodes of a pair
abbrev pub reached : Tree → Tree → List Cable → List Cable → Pair → List Pair
reached old new far over start = walked old new far (with_pair old new [] start) over

-- ---- the start from which the most are reached

abbrev pub longer : List Pair → List Pair → List Pair
longer best found = if nat_lt (length best) (length found) then found else best

-- no more can be reached
abbrev pub is_full : Tree → Tree → List Pair → Bool
is_full old new pairs = length pairs == min (length (walk old)) (length (walk new))

-- the better of the best so far and what is reached from one start more
abbrev pub with_start : Tree → Tree → List Cable → List Cable → List Pair → Pair → List Pair
with_start old new far over best start =
    if is_full old new best then best else longer best (reached old new far over start)

-- and from one node of the old bus with each of so many nodes of the new one
abbrev pub best_with : Tree → Tree → List Cable → List Cable → List Pair → ℕ → ℕ → List Pair
best_with old new far over best id zero = best
best_with old new far over best id (suc other) =
    with_start old new far over (best_with old new far over best id other) (record { old = id; new = other })

-- the first of the longest, from so many nodes of the old bus
abbrev pub best_of : Tree → Tree → List Cable → List Cable → ℕ → List Pair
best_of old new far over zero = []
best_of old new far over (suc id) =
    best_with old new far over (best_of old new far over id) id (length (walk new))

-- ---- the pairs by rising ID in the new bus

abbrev pub by_new_id : List Pair → ℕ → List Pair
by_new_id pairs zero = []
by_new_id pairs (suc id) =
    by_new_id pairs id ++ option_to_list (find (λ p. p.new == id) pairs)

-- which node is which: from the first two nodes from which the most are reached
unfoldable pub matched : Tree → Tree → List Pair
matched old new =
    by_new_id (best_of old new (cables new) (ways (cables old)) (length (walk old))) (length (walk new))

-- ---- laws

-- what is reached from a pair of nodes of two buses
abbrev pub reached_from : Tree → Tree → Pair → List Pair
reached_from old new start = reached old new (cables new) (ways (cables old)) start

-- both nodes are there
abbrev pub IsThere : Tree → Tree → Pair → Type 0
IsThere old new p = (p.old < length (walk old)) × (p.new < length (walk new))

-- by the ID in the old bus, and where it is the same by that in the new one
abbrev pub IsBefore : Pair → Pair → Type 0
IsBefore p q = (p.old < q.old) ⊎ ((p.old ≡ q.old) × (p.new < q.new))

-- from no other two nodes more is reached, and from none before them as much
pub record IsFurthest (old new : Tree) (start : Pair) : Type 0 where
  pub there : IsThere old new start
  pub most :
      (p : Pair) → IsThere old new p →
      length (reached_from old new p) ≤ length (reached_from old new start)
  pub first :
      (p : Pair) → IsThere old new p → IsBefore p start →
      length (reached_from old new p) < length (reached_from old new start)

-- two nodes are taken for one where they are reached from the furthest start
abbrev pub EachWalkBeginsFurthest : Type 0
EachWalkBeginsFurthest =
    (old new : Tree) → (start : Pair) × IsFurthest old new start
    × (matched old new ≡ by_new_id (reached_from old new start) (length (walk new)))

-- one of these cables, told from either end
abbrev pub IsToldOf : List Cable → Cable → Type 0
IsToldOf cs c = Contains cs c ⊎ Contains cs (turned c)

-- a cable of each bus leads from the node of one pair to that of another, and both by ports of the same numbers
pub record IsStep (old new : Tree) (p q : Pair) : Type 0 where
  pub here : Cable
  pub there : Cable
  pub is_old : IsToldOf (cables old) here
  pub is_new : IsToldOf (cables new) there
  pub from_old : here.parent ≡ p.old
  pub from_new : there.parent ≡ p.new
  pub to_old : here.child ≡ q.old
  pub to_new : there.child ≡ q.new
  pub out : here.port ≡ there.port
  pub into : here.child_port ≡ there.child_port

-- steps lead from the start to the nodes of a pair
pub data IsReachedBySteps (old new : Tree) (start : Pair) : Pair → Type 0 where
  at_start : IsReachedBySteps old new start start
  by_step : (p q : Pair) → IsReachedBySteps old new start p → IsStep old new p q → IsReachedBySteps old new start q

-- what is reached is reached by steps
abbrev pub EachPairIsReached : Type 0
EachPairIsReached =
    (old new : Tree) (start q : Pair) → Contains (reached_from old new start) q →
    IsReachedBySteps old new start q

-- no two nodes are left out to which a step leads from what is reached, and that may be one
abbrev pub EachStepIsTaken : Type 0
EachStepIsTaken =
    (old new : Tree) (start p q : Pair) → IsBusTree old → IsBusTree new →
    Contains (reached_from old new start) p → IsStep old new p q →
    may_be_one old new (reached_from old new start) q ≡ false
