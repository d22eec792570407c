-- Devices of the proofs. No public contract cites these files.
pub mod IdleTime
pub mod Levels
pub mod RowStep
