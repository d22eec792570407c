-- What crates above use: records that are written place by place, and which record a slot and a node have.
pub use Rattle.c_records.proofs.Places.{written, stays, replicated, put_next}
pub use Rattle.c_records.proofs.Slots.{slot_of, slot_past, node_shown}
