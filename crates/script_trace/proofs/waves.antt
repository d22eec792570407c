-- What is written into a dump, and that a script has one.
pub mod Walked
pub mod Digits
pub mod News
pub mod OneDump
