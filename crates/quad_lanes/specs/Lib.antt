pub mod Capture
pub mod Pairs
pub mod Rows
