-- What crates above use of the proofs of this one, by what it is about.

-- The reach of a tree is that of its longest paths.
pub use Rattle.bus_manager.proofs.Longest.{is_hops, reach, small}
-- A tree has one number of hops.
pub use Rattle.bus_manager.proofs.OneHops.{one_hops}
