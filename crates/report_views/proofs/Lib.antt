pub mod Graphs
pub mod Components
pub mod Shallow
pub mod OneView
pub mod SomeView
pub mod NameAt
pub mod DotLines
pub mod TreeDot
pub mod PlainDot
pub mod Dots
mod WorkedDots
