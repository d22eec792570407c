use Rattle.world_laws.proofs.Freshness.{first-fresh, acts-fresh, settled-fresh}
use Rattle.world_laws.proofs.laws.acts_make_fresh.Goals as goal

pub returns-clause-first : goal.returns-clause-first
returns-clause-first c = first-fresh

pub returns-clause-later : goal.returns-clause-later
returns-clause-later c = acts-fresh

pub returns-clause-settled : goal.returns-clause-settled
returns-clause-settled c = settled-fresh
