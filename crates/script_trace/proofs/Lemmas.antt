-- What crates above use of the proofs of this one.

-- What the nodes showed before an act.
pub use Rattle.script_trace.proofs.ActTouched.{seen-length}
