pub mod Answers
pub mod Changes
pub mod Maps
pub mod Plans
pub mod Roms
pub mod Sentences
