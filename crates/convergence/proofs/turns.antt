-- What one turn makes of a node and of a cable.
--
-- `Cables`: the two ends of a cable are there. `AlongRuns`: what turns, holds and acts keep holds
-- of every world that comes of power-on. `Roles`: how a node comes to a parent port and to child ports.
-- `BeforeTree`: what keeps a node in R1 and T0. `Moves`: what a tick does in T1, T2 and T3.
-- `Weights`: what T1 and a parent port weigh, which no tick raises. `CalmTurns`: a turn in which
-- nobody enters R0. `Flush`: what a node tells for d turns is shown at the other end.
pub mod Clocks
pub mod SlowTurns
pub mod TwoTurns
pub mod PhaseFacts
pub mod PortFacts
pub mod Cables
pub mod AlongRuns
pub mod Roles
pub mod BeforeTree
pub mod Moves
pub mod Weights
pub mod CalmTurns
pub mod Flush
