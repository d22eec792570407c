pub mod Events
pub mod Traces
pub mod Reading
