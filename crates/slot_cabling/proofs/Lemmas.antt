-- What crates above cite of the proofs here.
pub use Rattle.slot_cabling.proofs.SlotCabling.{cabled}
pub use Rattle.slot_cabling.proofs.SlotTrees.{row-length, all-of, whole-seen}
