pub mod MadeLines
pub mod MadeSize
pub mod MadeRead
pub mod MadeCommands
pub mod valid
