pub mod Bits
pub mod Histories
pub mod Locks
pub mod Steps
pub mod UnderWay
pub mod Grants
