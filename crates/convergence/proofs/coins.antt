-- Root contention.
--
-- `CoinsInTurns`: what a node knows of its own draws. `Rivals`: two nodes that have each other for
-- parent, in a turn; `Stands`: how they stand after it; `ContestsInTurns`: what the ends of a cable
-- know is kept. `StaysContested`: so in every world that comes of power-on. `DrawsAgree`: the bits of the draws.
-- `Drawers`: two nodes of a component drew at most. `Winner`: the long wait wins.
pub mod CoinsInTurns
pub mod Rivals
pub mod Stands
pub mod ContestsInTurns
pub mod StaysContested
pub mod DrawsAgree
pub mod Drawers
pub mod Winner
