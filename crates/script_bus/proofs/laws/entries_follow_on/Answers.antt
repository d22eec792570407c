use Rattle.script_bus.proofs.FollowOn.{follow-on}
use Rattle.script_bus.proofs.laws.entries_follow_on.Goals as goal

pub returns : goal.returns
returns c = follow-on
