pub mod Likeness
pub mod Hint
