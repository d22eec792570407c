-- Every component comes to an outcome.
--
-- `Unnamed`: in a component with a loop nobody is granted, so nobody has an ID. `Beginnings`: the
-- turn in which the last node comes to self identify, and the root that there is then. `Elsewhere`:
-- an act leaves a component alone in which nobody enters R0. `Numbering`: so in every reached world
-- lists follow the walk. `Outcomes`: whether a component has come to a tree can be told, and if not
-- its contention is the outcome. `QuietTurns` counts the turns, and `QuietRuns` says the same of runs.
-- `LeftAlone`: so does a bus that is left alone. `TreesStay`: a tree is at rest, and
-- stays so. `StaySettled`: every outcome stays one. `ForcedOutcome`: a forced root is the root of
-- the tree. `Components`: the set of a component is small.
pub mod Components
pub mod Unnamed
pub mod Beginnings
pub mod Elsewhere
pub mod Numbering
pub mod Outcomes
pub mod QuietTurns
pub mod QuietRuns
pub mod LeftAlone
pub mod TreesStay
pub mod StaySettled
pub mod ForcedOutcome
