-- Ports and cables (IEEE Std 1394-1995, cable environment).
use Rattle.std.specs.Prelude.{◌≡◌, ◌≢◌, ◌⊎◌, ◌↔◌, ℕ, ◌<◌, ◌≤◌, Option, Some, None, List, [], length, slice_index, slice_index_or, map, replicate}
use Rattle.cabling.specs.declared.cable.End.{End}

-- a node by its number, from 0
abbrev pub NodeNumber : Type 0
NodeNumber = ℕ

-- For each node, by number, its ports in rising order; for each port the other end of the cable in
-- it, or none.
abbrev pub Wiring : Type 0
Wiring = List (List (Option End))

abbrev pub ports_of : Wiring → NodeNumber → List (Option End)
ports_of c node = slice_index_or c node []

-- the other end of the cable at this end
abbrev pub far : Wiring → End → Option End
far c end = slice_index_or (ports_of c end.node) end.port None

-- there is this node with this port
pub record HasEnd (c : Wiring) (end : End) : Type 0 where
  pub node : end.node < length c
  pub port : end.port < length (ports_of c end.node)

-- A cable has two ends, on two different nodes, and no end is in two cables: looking back from the
-- far end shows the end that one came from.
pub record IsCabling (c : Wiring) : Type 0 where
  pub both_ways : (a b : End) → far c a ≡ Some b → far c b ≡ Some a
  pub two_nodes : (a b : End) → far c a ≡ Some b → a.node ≢ b.node
  pub few_nodes : length c ≤ 63
  pub some_port : (node : NodeNumber) → node < length c → 1 ≤ length (ports_of c node)
  pub few_ports : (node : NodeNumber) → node < length c → length (ports_of c node) ≤ 16

-- each count is 1 to 16, as many ports as a node may have
abbrev pub ArePortCounts : List ℕ → Type 0
ArePortCounts counts =
    (i : ℕ) → i < length counts → (1 ≤ slice_index counts i) × (slice_index counts i ≤ 16)

-- nodes with these counts of ports, and no cable
abbrev pub without_cables : List ℕ → Wiring
without_cables counts = map (λ count. replicate count None) counts

-- a cable has these two ends, in whichever order
abbrev pub IsCable : Wiring → End → End → Type 0
IsCable c a b = (far c a ≡ Some b) ⊎ (far c b ≡ Some a)

-- the same nodes with as many ports each, and the same set of cables
pub record HasTheSame (c d : Wiring) : Type 0 where
  pub ports : map length c ≡ map length d
  pub cables : (a b : End) → IsCable c a b ↔ IsCable d a b

-- Counts of ports and a set of cables are all that there is to a cabling.
abbrev pub AreTheirCables : Wiring → Wiring → Type 0
AreTheirCables c d = HasTheSame c d → c ≡ d
