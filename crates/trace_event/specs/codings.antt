pub mod Follows
pub mod Kind
