-- What crates above use of the proofs of this one, by what it is about.

-- No fewer cables than those advised leave a component without a loop.
pub use Rattle.script_advice.proofs.Fewest.{fewest-of}
-- No script has two advices.
pub use Rattle.script_advice.proofs.OneAdvice.{end-of}
-- Cables are pulled one after the other.
pub use Rattle.script_advice.proofs.Pulling.{first-pullable, next-pullable, pulls-append, rest-pullable}
-- What is advised on a bus that has settled.
pub use Rattle.script_advice.proofs.Settled.{named-now, pullable-now, reported-pullable}
