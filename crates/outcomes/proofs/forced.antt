-- A node that waits alone to become root.
--
-- `Spread`: a reset that has just begun comes to all. `Forced`: what a node takes over at its
-- entry. `Waits`: the node that waits stays in T0. `FreeTrees`: the others leave it one after the
-- other. `ForcedRoot`: so it becomes root. `Towards`: each other node asks towards it, and nobody
-- draws. `Configured`: a configuration packet forces the node that it names.
pub mod Spread
pub mod Forced
pub mod Waits
pub mod FreeTrees
pub mod ForcedRoot
pub mod Towards
pub mod Configured
