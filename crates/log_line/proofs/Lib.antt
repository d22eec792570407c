pub mod Parts
pub mod Commas
pub mod Unmarked
pub mod Fits
pub mod Lemmas
