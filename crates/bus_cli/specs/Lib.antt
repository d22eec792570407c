pub mod Answer
pub mod Cabled
pub mod CabledBy
pub mod Form
pub mod OneAnswer
pub mod codings
