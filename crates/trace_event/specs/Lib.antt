pub mod Stands
pub mod Event
pub mod codings
