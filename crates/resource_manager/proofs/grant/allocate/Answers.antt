use Rattle.std.proofs.Common.{sym}
use Rattle.resource_manager.proofs.Grants.{allocation_takes}
use Rattle.resource_manager.proofs.grant.allocate.Goals as goal

pub returns-clause-takes : goal.returns-clause-takes
returns-clause-takes c =
    rw c.take.ensures (allocation_takes _ _ _ _ c.requires.channel (sym c.in_ok-check_allocate.ensures.fault))
