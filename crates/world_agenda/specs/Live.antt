-- Of which nodes the wires are live: something is under way on them, or one is held. And from which wires
-- something arrives.
use Rattle.std.specs.Prelude.{ℕ, List, [], length, slice_index_or}
use Rattle.cabling.specs.NodeSet.{Nodes, Holds}
use Rattle.cable_world.specs.Wire.{Wire}
use Rattle.cable_world.specs.running.Hearing.{Arriving}
use Rattle.cable_world.specs.running.Rest.{AreAtRest, AreNone}
use Rattle.world_agenda.specs.Agenda.{AreBelow}

-- the wires of the nodes that aren't in the set are at rest
abbrev pub RestBut : Nodes → List (List Wire) → Type 0
RestBut set wires = (k : ℕ) → (Holds set k → ⊥) → AreAtRest (slice_index_or wires k [])

-- nothing arrives from them
abbrev pub GiveNoneBut : Nodes → Arriving → Type 0
GiveNoneBut set table = (k : ℕ) → (Holds set k → ⊥) → AreNone (slice_index_or table k [])

-- the set has each node whose wires are live
pub record HasLive (live : Nodes) (wires : List (List Wire)) : Type 0 where
  pub near : AreBelow live (length wires)
  pub rest : RestBut live wires

-- the set has each node from whose wires something arrives
pub record HasGivers (givers : Nodes) (table : Arriving) : Type 0 where
  pub near : AreBelow givers (length table)
  pub none : GiveNoneBut givers table
