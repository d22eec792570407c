mod Plus
mod Bits
pub mod Division
mod Bytes
mod Emitted
pub mod Parts
pub mod SomeMap
pub mod Lemmas
