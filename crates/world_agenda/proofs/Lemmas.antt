-- What crates above use of the proofs of this one, by what it is about.

-- Turns to come in which nothing happens.
pub use Rattle.world_agenda.proofs.Ahead.{still-first, still-later, still-turn}
-- Turns, one after the other.
pub use Rattle.world_agenda.proofs.Turns.{no-turns}
