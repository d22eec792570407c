pub mod Reset
pub mod Import
pub mod Form
pub mod Status
pub mod codings
pub mod OneReset
