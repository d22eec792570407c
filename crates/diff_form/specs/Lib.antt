pub mod Difference
pub mod Form
pub mod Status
