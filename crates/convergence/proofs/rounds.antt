-- Tree identify ends, or two nodes draw 32 equal coins.
--
-- `Grown`: a component that knows its tree. `Handshake`: a node in T1 above no other in T1 leaves
-- it within twice what it takes until something is seen; `Shaken`: so nobody is in T1 in the end. `Rooted`: with a root all come to
-- self identify. `RivalSteps`, `Rounds`: both rivals draw again within a wait and twice that, or one
-- becomes root. `ThirtyThreeRounds`: then the first 32 draws are equal. `IdentifyOrContend`
-- joins these.
pub mod Grown
pub mod Handshake
pub mod Shaken
pub mod Rooted
pub mod RivalSteps
pub mod Rounds
pub mod ThirtyThreeRounds
pub mod IdentifyOrContend
