pub mod Answering
pub mod Lemmas
