pub mod Front
pub mod Layouts
pub mod One
pub mod Exact
pub mod Parts
pub mod Stopped
