-- Which node of one bus is which of another.
use Rattle.std.specs.Prelude.{◌≡◌, ℕ, Bool, true, false, ◌==◌, ◌&&◌, IsSomeAnd, Contains, count_by, List, slice_get}
use Rattle.std.specs.List.{list_any}
use Rattle.self_id.specs.declared.node.PortStatus.{PortStatus}
use Rattle.self_id.specs.declared.node.PortStatus.TheVariants.{Absent, Unplugged, Up, Down}
use Rattle.self_id.specs.Node.{Node}
use Rattle.topology_stack.specs.Tree.{Tree, walk}
use Rattle.bus_diff.specs.declared.pair.Pair.{Pair}

-- a slot with this status is a port
abbrev pub is_port : PortStatus → Bool
is_port Absent = false
is_port Unplugged = true
is_port Up = true
is_port Down = true

-- how many ports a node has, plugged or not
abbrev pub port_count : List PortStatus → ℕ
port_count slots = count_by is_port slots

-- the node with this ID has so many ports
abbrev pub HasPorts : List Node → ℕ → ℕ → Type 0
HasPorts nodes id count = IsSomeAnd (slice_get nodes id) (λ n. port_count n.ports ≡ count)

-- both nodes of a pair are there, and have as many ports as each other
abbrev pub IsFit : List Node → List Node → Pair → Type 0
IsFit old new p = (count : ℕ) × HasPorts old p.old count × HasPorts new p.new count

-- Pairs of a node of the old bus and the node of the new bus that it is. No node stands in two pairs, and each
-- has as many ports in both.
pub record IsMatching (old new : Tree) (pairs : List Pair) : Type 0 where
  pub old_once :
      (p q : Pair) → Contains pairs p → Contains pairs q → p.old ≡ q.old → p.new ≡ q.new
  pub new_once :
      (p q : Pair) → Contains pairs p → Contains pairs q → p.new ≡ q.new → p.old ≡ q.old
  pub fit : (p : Pair) → Contains pairs p → IsFit (walk old) (walk new) p

-- the node of the old bus with this ID is in the new one
abbrev pub stays : List Pair → ℕ → Bool
stays pairs id = list_any (λ p. p.old == id) pairs

-- the node of the new bus with this ID was in the old one
abbrev pub stood : List Pair → ℕ → Bool
stood pairs id = list_any (λ p. p.new == id) pairs

-- these are IDs of one node, in the old bus and in the new one
abbrev pub is_one : List Pair → ℕ → ℕ → Bool
is_one pairs old new = list_any (λ p. (p.old == old) && (p.new == new)) pairs
