-- What crates above use of the proofs of this one, by what it is about.

-- What the slots of a bus tree's nodes say, by ID.
pub use Rattle.speed_map.proofs.Facts.{down_again, joined_within, parent_in, speed_is}
-- A tree node by node: each with its place in the walk, the ends of its slots, and the first ID of its
-- subtree. The IDs of a subtree run from that one to the node's own.
pub use Rattle.speed_map.proofs.Nodes.{Ends, last, length-ends_below, length-ends_from}
-- Equal lists make one bus.
pub use Rattle.speed_map.proofs.SameBus.{one-rows, sealed-once}
-- Between two nodes of a bus there is one path.
pub use Rattle.speed_map.proofs.Unique.{one_path}
