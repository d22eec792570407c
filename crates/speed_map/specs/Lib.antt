pub mod Path
pub mod Rows
pub mod SomeRows
pub mod SameBus
pub mod Image
pub mod Answer
pub mod codings
