-- what a node shows
pub mod Shown
-- the turns before it
pub mod QuietCount
pub mod LeftAlone
-- the outcome of a component
pub mod TreeShown
pub mod Pairs
pub mod Settled
-- numbers of a component
pub mod Greatest
-- all components
pub mod PartsSoFar
pub mod SeenTrees
pub mod ReadBack
pub mod OneReport
pub mod ReportedOutcome
pub mod SomeReport
pub mod SomeWalk
-- a tree from a root, and a node that alone is forced
pub mod SameNodes
pub mod Relabelled
pub mod Found
pub mod ForcedRoots
-- the turns before
pub mod SlackTold
pub mod TurnsGiven
-- a bus manager's plan: the hops don't depend on the root
pub mod Cables
pub mod SameHops
-- what a plan finds, which plans suit, and what is there once one is carried out
pub mod Suited
pub mod Chosen
pub mod Carried
pub mod GapsRead
pub mod Lemmas
