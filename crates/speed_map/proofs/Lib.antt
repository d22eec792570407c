pub mod Nodes
mod Kin
mod Apart
pub mod Facts
mod Steps
mod Copied
pub mod Unique
pub mod SameBus
pub mod SomeRows
pub mod Lemmas
pub mod ReadBack
