-- Child cables form no cycle: nodes have ranks that fall along them.
--
-- `Ranks`: a set that isn't empty has a node above the others and one below. `RanksInTurns`: all
-- nodes that take roles in a turn get ranks above the others. `RanksInActs`: acts only take child
-- cables away. `StaysAcyclic`: so every world that comes of power-on is acyclic.
pub mod Ranks
pub mod RanksInTurns
pub mod RanksInActs
pub mod StaysAcyclic
