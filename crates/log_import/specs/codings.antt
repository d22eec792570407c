pub mod Standing
pub mod Verdicts
