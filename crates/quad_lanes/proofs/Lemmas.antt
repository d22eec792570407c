-- What crates above use of the proofs of this one, by what it is about.

-- Captures and the pairs that are read from them.
pub use Rattle.quad_lanes.proofs.Captured.{big_endian-bytes, bytes-big_endian}
-- How many quadlets bytes hold, how many pairs quadlets make, that bytes fit eight bits and quadlets 32.
pub use Rattle.quad_lanes.proofs.Quadlets.{all_bytes, all_quadlets, fit_firsts, length-quads_of}
-- What stands at a place of a list.
pub use Rattle.quad_lanes.proofs.Items.{at_drop, item_at}
-- Texts that are written one behind the other.
pub use Rattle.quad_lanes.proofs.Joined.{three, four, five}
-- Lists in two parts, and a part that stands in a list.
pub use Rattle.quad_lanes.proofs.Spans.{slice_get-left, slice_get-right, Has, has-left, has-right, has-tail, has-head, has-itself}
-- Quadlets and bytes, written and read back.
pub use Rattle.quad_lanes.proofs.Written.{quads-bytes, bytes-quads, length-bytes_of}
