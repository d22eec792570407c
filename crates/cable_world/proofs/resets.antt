-- In quiet turns resets end: the law `resets_end`.
--
-- `Entries`: a node enters R0 because a neighbour did, at most d turns before, so that the nodes
-- that entered lately form a chain no longer than there are nodes; after n d turns none enters.
-- `ResetCounts`: a node that doesn't enter counts no reset. `ResetsEnd` joins the two.
pub mod Entries
pub mod ResetCounts
pub mod ResetsEnd
