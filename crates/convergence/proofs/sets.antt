-- Sets of nodes.
--
-- `Closure`: what no cable leads out of holds the component of each of its nodes. `Gathered`: the
-- numbers below n that pass a test, as a set, and how many they are.
pub mod Closure
pub mod Gathered
