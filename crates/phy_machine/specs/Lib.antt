pub mod Clock
pub mod Any
pub mod Field
pub mod Node
pub mod Packed
pub mod PowerOn
pub mod codings
