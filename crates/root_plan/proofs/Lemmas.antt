-- What crates above use of the proofs of this one, by what it is about.

-- The best candidate, found from the highest ID down.
pub use Rattle.root_plan.proofs.Choosing.{candidate_within}
