-- Devices of proof: how what the contracts speak of is found step by step. No public contract cites
-- one of these files.
pub mod Marks
pub mod Groups
pub mod Collected
pub mod Placed
