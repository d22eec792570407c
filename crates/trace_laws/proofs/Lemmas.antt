-- What crates above use of the proofs of this one, by what it is about.

-- What is known of a script's run: the names of its nodes, and how many turns are done.
pub use Rattle.trace_laws.proofs.Known.{IsKnown, IsKnownRun, known-run}
