-- Worked runs, which the check computes: the marks of a tree of four nodes, a line and a star that
-- settle, a forced root, and a bus that is left alone.
pub mod Walk
pub mod FiveNodes
pub mod ForcedRoot
pub mod ShortForce
pub mod LeftAlone
