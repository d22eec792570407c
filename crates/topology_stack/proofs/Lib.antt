pub mod ReadFrom
pub mod Stack
pub mod Sound
pub mod Loop
pub mod Run
pub mod Exact
pub mod Lemmas
pub mod Linking
pub mod Answered
pub mod Cutting
pub mod Ends
pub mod Parent
pub mod Joining
pub mod Highest
mod Lasting
mod Streaming
mod Behind
mod Digits
