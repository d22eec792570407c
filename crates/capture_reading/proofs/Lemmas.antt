-- What crates above use of the proofs of this one.

-- Bytes that are the capture of the firsts of their pairs.
pub use Rattle.capture_reading.proofs.Reading.{is_capture}
