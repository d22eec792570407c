pub mod Sweep
pub mod Bytes
