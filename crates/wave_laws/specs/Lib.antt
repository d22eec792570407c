pub mod Reading
pub mod Shown
pub mod Moments
pub mod Run
pub mod Apart
