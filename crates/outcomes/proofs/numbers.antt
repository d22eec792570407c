-- Self identify in the order of the walk (IsNumbered).
--
-- `NodeMessages`, `Turning`: one node, with its row of marks. `NumberedTurn`: a component in a
-- turn. `Settling`: how it begins, and goes on. `AtRest`: an ID is left and there is room, and
-- at rest it has come to its tree. `Progress`, `Stages`, `Settles`: all come to A0. `Spreads`:
-- the root's list comes to all. `HoldRests`: a hold changes nothing of this.
pub mod NodeMessages
pub mod Turning
pub mod NumberedTurn
pub mod Settling
pub mod AtRest
pub mod Progress
pub mod Stages
pub mod Settles
pub mod Spreads
pub mod HoldRests
