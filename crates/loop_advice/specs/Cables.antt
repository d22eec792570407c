-- Lists of cables, and which nodes they join.
use Rattle.std.specs.Prelude.{◌≡◌, ◌⊎◌, ◌↔◌, Bool, Some, List, [], ◌∷◌}
use Rattle.cabling.specs.declared.cable.Cable.{Cable}
use Rattle.cabling.specs.Wiring.{Wiring, NodeNumber, far}
use Rattle.cabling.specs.NodeSet.{Nodes, Holds}

-- the cable with its other end first
abbrev pub turned : Cable → Cable
turned x = record { a = x.b; b = x.a }

-- one cable, whichever end is first
abbrev pub IsSame : Cable → Cable → Type 0
IsSame x y = (x ≡ y) ⊎ (x ≡ turned y)

-- the list has the cable, whichever end is first
abbrev pub Lists : List Cable → Cable → Type 0
Lists [] x = ⊥
Lists (y ∷ ys) x = IsSame x y ⊎ Lists ys x

-- no cable is twice in the list
abbrev pub HasNoneTwice : List Cable → Type 0
HasNoneTwice [] = Unit {0}
HasNoneTwice (x ∷ xs) = (Lists xs x → ⊥) × HasNoneTwice xs

-- the cable is plugged in, at a node of the set
pub record IsCableOf (c : Wiring) (set : Nodes) (x : Cable) : Type 0 where
  pub joined : far c x.a ≡ Some x.b
  pub here : Holds set x.a.node

-- the list has each cable of the set of nodes once, and no other
pub record HoldsEachOnce (c : Wiring) (set : Nodes) (cables : List Cable) : Type 0 where
  pub once : HasNoneTwice cables
  pub all : (x : Cable) → Lists cables x ↔ IsCableOf c set x

-- none of these cables leads out of the set of nodes that pass the test
abbrev pub NoneLeadsOut : List Cable → (NodeNumber → Bool) → Type 0
NoneLeadsOut cables test = (x : Cable) → Lists cables x → test x.a.node ≡ test x.b.node

-- A path of these cables joins the two nodes: every set out of which none of the cables leads has
-- both of them or neither.
abbrev pub AreJoined : List Cable → NodeNumber → NodeNumber → Type 0
AreJoined cables a b = (test : NodeNumber → Bool) → NoneLeadsOut cables test → test a ≡ test b

-- these cables join the node to each node of the set
abbrev pub JoinAll : List Cable → NodeNumber → Nodes → Type 0
JoinAll cables node set = (other : NodeNumber) → Holds set other → AreJoined cables node other
