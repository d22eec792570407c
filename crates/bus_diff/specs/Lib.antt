pub mod Matching
pub mod Along
pub mod Change
pub mod Listed
pub mod Text
pub mod codings
pub mod Same
pub mod Difference
