-- What the contracts of a world's parts cite: how a turn and an act go from item to item. No contract of a whole world
-- cites these files.
pub mod Ages
pub mod Rows
pub mod Tally
pub mod Rest
pub mod Hearing
pub mod Steps
pub mod NodeActs
pub mod ActEnds
