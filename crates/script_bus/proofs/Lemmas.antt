-- What crates above use of the proofs of this one.

-- The text of the last report is one.
pub use Rattle.script_bus.proofs.Hearing.{one-text}
