pub mod Going
pub mod Kept
pub mod Tokens
pub mod InJson
