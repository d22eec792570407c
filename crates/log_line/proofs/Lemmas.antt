-- What crates above use of the proofs of this one, by what it is about.

-- The quadlets that a line tells have 32 bits.
pub use Rattle.log_line.proofs.Fits.{Fit, fit_at, line_fits, line_packet_fits}
-- A line without a mark is none that is shown.
pub use Rattle.log_line.proofs.Unmarked.{no_mark, nothing_shown, unmarked_behind, unmarked_line}
