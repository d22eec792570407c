pub mod Written
pub mod Lemmas
