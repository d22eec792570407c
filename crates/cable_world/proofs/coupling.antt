-- What holds at the two ends of a cable (IsCoupled), and from it that child ports lead to parent
-- ports.
--
-- `Streams` is of the signals under way alone. `Sides` has a node at its port of a cable, before
-- and after it takes a turn; `CableInTurn` has both ends, and shows that each part of Coupling is
-- kept: why a child port leads to a parent port is there. `CouplingInTurns` says it of a world's
-- turn, with the levels, `CouplingInActs` of holds and acts. `RolesFollow`: child ports lead to
-- parent ports.
pub mod Streams
pub mod Sides
pub mod CableInTurn
pub mod CouplingInTurns
pub mod CouplingInActs
pub mod RolesFollow
