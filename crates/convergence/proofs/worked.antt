-- Worked runs, which the check computes: a contention, one with held wires, the same as quiet turns
-- with holds between them, a line of five nodes, a star, and a loop with a tail.
pub mod TwoNodes
pub mod HeldContention
pub mod HeldBetween
pub mod AllNodes
pub mod FiveNodes
pub mod LoopWithTail
