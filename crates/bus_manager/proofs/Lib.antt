pub mod Longest
pub mod Waiting
pub mod Routes
pub mod OneHops
pub mod Lemmas
