-- `Blend`: a table of which the entries of a set are still to be written. `Late`: a
-- machine that stands at an earlier turn, and nodes of which nothing is heard. `Hears`: where something is
-- heard. `Rest`: wires at rest. `LiveRows`: the nodes whose wires are live. `Quiet`: the nodes that a turn
-- doesn't visit. `Known`: what an agenda says. `Places`: the nodes that a loop hasn't come to. `Whole`: a world
-- by its parts. `Turns`: turns, one after the other. `Ahead`: turns to come in which nothing
-- happens. `Alone`: the nodes that the next turn leaves alone. `SlowNodes`: even clocks. `Touched`: what an act leaves of what is known.
pub mod Blend
pub mod Late
pub mod Hears
pub mod Rest
pub mod LiveRows
pub mod Quiet
pub mod Known
pub mod Places
pub mod Turns
pub mod Whole
pub mod Ahead
pub mod Alone
pub mod SlowNodes
pub mod Touched
pub mod Lemmas
