pub mod Update
pub mod Places
pub mod Over
pub mod Begun
pub mod OneDrawing
pub mod OneTree
pub mod InOrder
pub mod OneText
pub mod SomeText
pub mod Wrote
pub mod Reading
pub mod Answered
pub mod Shallow
pub mod Heard
pub mod AsRead
pub mod AsBefore
pub mod Capped
mod Lost
mod Shortest
pub mod Lemmas
