-- Loops of cables.
use Rattle.std.specs.Prelude.{◌≡◌, ℕ, ◌<◌, ◌^◌, ◌↔◌, Some}
use Rattle.cabling.specs.declared.cable.End.{End}
use Rattle.cabling.specs.Wiring.{Wiring, NodeNumber, far}
use Rattle.cabling.specs.NodeSet.{Nodes, Holds, IsWithin, IsEmpty}
use Rattle.cabling.specs.Component.{IsComponent}
use Rattle.cabling.specs.Change.{TakenOut}

-- the cable at this end leads to a node of the set
abbrev pub LeadsInto : Wiring → Nodes → End → Type 0
LeadsInto c set end = (other : End) × (far c end ≡ Some other) × Holds set other.node

-- Two cables lead from the node into the set. Two cables to one neighbour are two.
pub record HasTwo (c : Wiring) (set : Nodes) (node : NodeNumber) : Type 0 where
  pub low : ℕ
  pub high : ℕ
  pub apart : low < high
  pub low_leads : LeadsInto c set (record { node = node; port = low })
  pub high_leads : LeadsInto c set (record { node = node; port = high })

-- each node of the set has at least two cables into the set
abbrev pub IsLooped : Wiring → Nodes → Type 0
IsLooped c set = (node : NodeNumber) → Holds set node → HasTwo c set node

-- the core of a set: the union of all looped sets inside it
abbrev pub IsCore : Wiring → Nodes → Nodes → Type 0
IsCore c set core =
    (node : NodeNumber) → Holds core node ↔
    ((part : Nodes) × IsWithin part set × IsLooped c part × Holds part node)

-- the core of the component of a node
pub record IsCoreOf (c : Wiring) (node : NodeNumber) (core : Nodes) : Type 0 where
  pub component : Nodes
  pub of_node : IsComponent c node component
  pub is : IsCore c component core

-- The cable between two ends lies on a core: both of its nodes are in the core of their component.
pub record LiesOnCore (c : Wiring) (a b : End) : Type 0 where
  pub core : Nodes
  pub of_near : IsCoreOf c a.node core
  pub near : Holds core a.node
  pub other : Holds core b.node

-- Where the core of a set is empty, every part of the set that isn't empty has a leaf: a node with
-- at most one cable into the part.
abbrev pub HasLeaves : Wiring → Type 0
HasLeaves c =
    (set core part : Nodes) (node : NodeNumber) →
    IsCore c set core → IsEmpty core → part < 2 ^ 63 → IsWithin part set → Holds part node →
    (leaf : NodeNumber) × Holds part leaf × (HasTwo c part leaf → ⊥)

-- A cable that lies on no core can be taken out without a change of any core: each node is in the
-- core of its component afterwards exactly where it was before.
abbrev pub OtherCablesKeepCores : Wiring → Wiring → Type 0
OtherCablesKeepCores old new =
    (a b : End) (node : NodeNumber) (before after : Nodes) →
    TakenOut old new a b → (LiesOnCore old a b → ⊥) →
    IsCoreOf old node before → IsCoreOf new node after →
    Holds before node ↔ Holds after node
