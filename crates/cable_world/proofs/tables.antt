-- The tables of a world fit its nodes and its cables, and no signal is under way for too long
-- (IsWellFormed).
--
-- `AtPowerOn` for the power-on world, `TablesInTurns` for a turn, `TablesInSteps` for a step of one
-- node between two turns, `TablesInActs` for acts and holds. `CountsInActs` has the law
-- `acts_keep`; `TimesKept` says that no node's times change, `Slack` that regular clocks keep their slack. `Shape` is of what is sent onto wires. `CableEnds`: the node, the port and the wire
-- at an end of a cable are there.
pub mod Shape
pub mod AtPowerOn
pub mod TablesInTurns
pub mod TablesInSteps
pub mod CountsInActs
pub mod TablesInActs
pub mod TimesKept
pub mod Slack
pub mod CableEnds
