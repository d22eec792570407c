pub mod Reach
pub mod Choice
pub mod Plan
pub mod SomeChoice
pub mod codings
