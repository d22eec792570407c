pub mod Register
pub mod Channel
pub mod Response
pub mod Grant
pub mod Access
pub mod Calls
pub mod Outcome
