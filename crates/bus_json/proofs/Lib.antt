pub mod ReadBack
pub mod JsonLines
pub mod Slots
pub mod Names
pub mod Nodes
mod Told
mod Worked
pub mod Lemmas
