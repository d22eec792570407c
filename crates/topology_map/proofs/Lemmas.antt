-- What crates above use of the proofs of this one, by what it is about.

-- Shifting divides.
pub use Rattle.topology_map.proofs.Division.{one_crc}
-- The parts that an image tells, and its one fault where it has one.
pub use Rattle.topology_map.proofs.Parts.{joined, split}
-- Each body has a CRC: what the register holds in the end, as a number. So it has an image.
pub use Rattle.topology_map.proofs.SomeMap.{some_crc}
