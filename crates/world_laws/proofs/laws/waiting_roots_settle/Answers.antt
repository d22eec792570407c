use Rattle.world_laws.proofs.Freshness.{fresh-roots, first-roots}
use Rattle.world_laws.proofs.laws.waiting_roots_settle.Goals as goal

pub returns-clause-fresh : goal.returns-clause-fresh
returns-clause-fresh c = fresh-roots

pub returns-clause-first : goal.returns-clause-first
returns-clause-first c = first-roots
