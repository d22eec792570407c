use Rattle.self_id.specs.declared.standard.Standard.TheVariants.{Ieee2000}
use Rattle.slot_cabling.proofs.Lemmas.{cabled}
use Rattle.world_laws.proofs.SlotTrees.{slot-trees, emitted}
use Rattle.world_laws.proofs.laws.bus_trees_are_cabled.Goals as goal

pub returns-clause-each : goal.returns-clause-each
returns-clause-each c = cabled Ieee2000

pub returns-clause-only : goal.returns-clause-only
returns-clause-only c = slot-trees

pub returns-clause-lists : goal.returns-clause-lists
returns-clause-lists c = emitted
