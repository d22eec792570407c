use Rattle.reset_list.proofs.Lost.{losses_counted}
use Rattle.reset_list.proofs.laws.losses_are_counted.Goals as goal

pub returns : goal.returns
returns c = losses_counted
