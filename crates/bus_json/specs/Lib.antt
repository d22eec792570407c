pub mod Text
pub mod Bus
pub mod Refusal
pub mod Lines
pub mod Told
pub mod codings
