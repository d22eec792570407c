pub mod Standards
pub mod Faults
pub mod Shown
pub mod Sentences
