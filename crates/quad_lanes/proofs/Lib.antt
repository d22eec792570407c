pub mod Captured
mod FirstBad
pub mod Items
pub mod Joined
mod Lanes
pub mod Quadlets
pub mod Spans
mod Steps
pub mod Written
pub mod Lemmas
