pub mod Form
pub mod Status
