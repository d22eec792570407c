use Rattle.std.proofs.Common.{ℕ, List, slice_index, sym, subst}
use Rattle.cabling.specs.Looped.{IsCoreOf}
use Rattle.root_plan.proofs.expected.expect.Goals as goal

pub returns-clause-cyclic : goal.returns-clause-cyclic
returns-clause-cyclic c = λ core is. c.walk_from.ensures.cyclic core (subst (λ (order : List ℕ). IsCoreOf c.args.cabling.now (slice_index order c.args.plan.now.root_id) core) (sym c.as_slice.ensures.value) is)
