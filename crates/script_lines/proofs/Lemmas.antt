-- What crates above use of the proofs of this one, by what it is about.

-- What a line is: what its reader says, and nothing else.
pub use Rattle.script_lines.proofs.LineRead.{one_reading, reads, some_reading}
-- The numbers of each command that a line says are in their ranges.
pub use Rattle.script_lines.proofs.Ranged.{in-range}
-- Reading by forms, one after the other.
pub use Rattle.script_lines.specs.codings.Reading.{read_line}
