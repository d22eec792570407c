use Rattle.world_laws.proofs.DoneMilestone.{entries-end, no-entry-stays, done-once-none}
use Rattle.world_laws.proofs.laws.entries_end.Goals as goal

pub returns-clause-after : goal.returns-clause-after
returns-clause-after c = entries-end

pub returns-clause-stays : goal.returns-clause-stays
returns-clause-stays c = no-entry-stays

pub returns-clause-done : goal.returns-clause-done
returns-clause-done c = done-once-none
