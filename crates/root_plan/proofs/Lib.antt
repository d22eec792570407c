-- the distance of two nodes
pub mod Climbing
-- the best candidate
pub mod Choosing
-- reaches and best candidates exist
pub mod SomeChoice
pub mod Lemmas
