pub mod Reading
pub mod Stop
pub mod Shown
