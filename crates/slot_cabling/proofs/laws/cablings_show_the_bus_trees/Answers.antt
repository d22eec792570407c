use Rattle.slot_cabling.proofs.SlotTrees.{show_bus_trees}
use Rattle.slot_cabling.proofs.laws.cablings_show_the_bus_trees.Goals as goal

pub returns : goal.returns
returns c = show_bus_trees
