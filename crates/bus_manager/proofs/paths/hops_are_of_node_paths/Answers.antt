use Rattle.bus_manager.proofs.Routes.{hops_of_paths}
use Rattle.bus_manager.proofs.paths.hops_are_of_node_paths.Goals as goal

pub returns : goal.returns
returns c = hops_of_paths
