pub mod Crc
pub mod Sealed
pub mod Map
pub mod SomeMap
pub mod Answer
pub mod codings
