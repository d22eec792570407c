-- Loops.
--
-- `Cores`: a node of a loop that took its roles would have a child cable to a node of the loop that
-- did too, and so on without end; and a component with a root is all under it. `Undecided`: so
-- from n d turns on. `LoopsReported`: the nodes of a loop stay in T0, until they time out.
pub mod Cores
pub mod Undecided
pub mod LoopsReported
