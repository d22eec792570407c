pub mod Made
pub mod MadeRead
pub mod MadeValid
pub mod Asked
pub mod codings
