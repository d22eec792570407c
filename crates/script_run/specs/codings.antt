pub mod Going
pub mod Declaring
pub mod Reading
