pub mod SlotCabling
