pub mod Answered
pub mod Listed
pub mod Viewed
pub mod OneViewed
pub mod Line
pub mod Answer
pub mod codings
