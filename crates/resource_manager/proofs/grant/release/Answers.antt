use Rattle.std.proofs.Common.{sym}
use Rattle.resource_manager.proofs.Grants.{release_takes_backwards}
use Rattle.resource_manager.proofs.grant.release.Goals as goal

pub returns-clause-takes : goal.returns-clause-takes
returns-clause-takes c =
    rw c.put_back.ensures (release_takes_backwards _ _ _ _ c.requires.channel (sym c.in_ok-check_release.ensures.fault))
