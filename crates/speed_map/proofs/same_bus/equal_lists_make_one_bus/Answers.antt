use Rattle.speed_map.proofs.SameBus.{one-manager, one-speed-map, one-topology-map, sealed-once}
use Rattle.speed_map.proofs.same_bus.equal_lists_make_one_bus.Goals as goal

pub returns-clause-manager : goal.returns-clause-manager
returns-clause-manager c = one-manager c.one_tree.ensures

pub returns-clause-speeds : goal.returns-clause-speeds
returns-clause-speeds c = one-speed-map c.one_tree.ensures

pub returns-clause-topology : goal.returns-clause-topology
returns-clause-topology c = one-topology-map

pub returns-clause-images : goal.returns-clause-images
returns-clause-images c = sealed-once
