-- Sets of nodes.
use Rattle.std.specs.Prelude.{◌≡◌, ◌≢◌, ◌↔◌, ℕ, zero, suc, ◌+◌}
use Rattle.std.specs.Int.{bit_at}
use Rattle.cabling.specs.Wiring.{NodeNumber}

-- A set of nodes is kept as a number: a node is in the set where the bit of its number is 1.
abbrev pub Nodes : Type 0
Nodes = ℕ

abbrev pub Holds : Nodes → NodeNumber → Type 0
Holds set node = bit_at set node ≡ 1

abbrev pub IsWithin : Nodes → Nodes → Type 0
IsWithin small large = (node : NodeNumber) → Holds small node → Holds large node

-- how many of the nodes below a number are in the set
abbrev pub size_below : Nodes → NodeNumber → ℕ
size_below set zero = 0
size_below set (suc node) = size_below set node + bit_at set node

abbrev pub IsEmpty : Nodes → Type 0
IsEmpty set = (node : NodeNumber) → Holds set node → ⊥

-- of each node but one, the sets both hold it or both don't
abbrev pub AgreeBut : Nodes → Nodes → NodeNumber → Type 0
AgreeBut old new node = (other : NodeNumber) → other ≢ node → (Holds new other ↔ Holds old other)
