use Rattle.bus_diff.proofs.Furthest.{begins_furthest}
use Rattle.bus_diff.proofs.Steps.{each_reached}
use Rattle.bus_diff.proofs.Closed.{each_taken}
use Rattle.bus_diff.proofs.laws.each_walk_begins_furthest.Goals as goal

pub returns : goal.returns
returns c = record {
  start = begins_furthest;
  reached = each_reached;
  taken = each_taken c.cables_are_of_the_tree.ensures.ends c.each_node_hangs_on_one_cable.ensures.one;
}
