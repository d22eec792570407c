pub mod IdleFor
pub mod PacketCount
pub mod SlowTurns
pub mod ClockTurns
pub mod IdleTurns
pub mod TickRows
