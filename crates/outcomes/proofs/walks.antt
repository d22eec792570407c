-- The walk of a tree, for whoever knows the parent ports alone.
--
-- `Parents`: the ports by which a seen tree's nodes are come to. `Fits` and `Marked`: how many
-- nodes of the walk come before those below a port. `Rising`: the same by whole nodes. `WaysUp`:
-- one way leads from each node to a chosen one. `Emit`: what the first nodes of the walk emit.
-- `InTurn`: nodes that get ready in turn get ready in the order of the walk. `Alike`: another
-- cabling with the same ports shows the same walk.
pub mod Parents
pub mod Fits
pub mod Marked
pub mod Rising
pub mod WaysUp
pub mod Emit
pub mod InTurn
pub mod Alike
