use Rattle.reset_list.proofs.Shortest.{shortest_kept}
use Rattle.reset_list.proofs.laws.shortest_times_are_kept.Goals as goal

pub returns : goal.returns
returns c = shortest_kept
