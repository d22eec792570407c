-- The level that a node last sent over a cable is under way to the other end, or shown there
-- (LevelsAgree).
--
-- `LastSent`: what each step sends on a port brings the level sent before to the one that the new
-- phase tells. `LastHeard`: what each signal makes of the level that a port shows. For turns the
-- rest is in coupling, where both ends of a cable take their turn; `LevelsInActs` has holds and
-- acts.
pub mod LastSent
pub mod LastHeard
pub mod LevelsInActs
