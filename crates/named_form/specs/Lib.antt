pub mod File
pub mod Mentions
pub mod Form
pub mod Shown
pub mod NamedDot
pub mod Status
