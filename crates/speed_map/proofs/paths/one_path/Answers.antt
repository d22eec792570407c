use Rattle.speed_map.proofs.Unique.{one_path}
use Rattle.speed_map.proofs.paths.one_path.Goals as goal

pub returns : goal.returns
returns c = λ t from to bus there p q. one_path t from to p q bus there
