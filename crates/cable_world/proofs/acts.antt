-- What happens between two turns.
--
-- `ResettingSteps`: a step of one node that resets the bus. `Cabled`: what plugging and pulling do
-- to the cables. `Happenings` says of each act and of a hold what happens to each node and to each
-- end of a cable: it entered R0 and sent Reset, or is as it was. That is all that levels and
-- coupling need.
pub mod ResettingSteps
pub mod Cabled
pub mod Happenings
