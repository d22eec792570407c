-- What crates above use of the proofs of this one.

-- A capture has one reading, also where it was told.
pub use Rattle.diff_form.proofs.Written.{OneReading, told_reading}
