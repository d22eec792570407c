pub mod Adding
pub mod Furthest
pub mod Matched
pub mod Parts
pub mod Reached
pub mod Room
pub mod Steps
pub mod Whole
mod Same
mod Rising
mod Walked
mod Closed
