pub mod SlotCabling
pub mod SlotTrees
pub mod Lemmas
