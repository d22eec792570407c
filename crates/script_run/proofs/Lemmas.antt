-- What crates above use of the proofs of this one, by what it is about.

-- A bus that was just reported has a name for each node of its report.
pub use Rattle.script_run.proofs.NamedEnd.{named-end}
