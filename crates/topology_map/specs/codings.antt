pub mod Register
pub mod Told
