-- The walk below a root.
--
-- `OwnGroups`: a node shows itself as its label in the tree does. `Calm`: where all nodes are in
-- self identify or A0 no Reset is under way. `RootWalk`: a root has a walk, told by single cables. `Named`: where all are named and have the list, that is the outcome.
pub mod OwnGroups
pub mod Calm
pub mod RootWalk
pub mod Named
