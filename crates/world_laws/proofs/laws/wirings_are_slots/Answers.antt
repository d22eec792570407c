use Rattle.world_laws.proofs.WiringSlots.{ports-slots, slots-same, seen-emitted, settled-emitted}
use Rattle.world_laws.proofs.laws.wirings_are_slots.Goals as goal

pub returns-clause-cabling : goal.returns-clause-cabling
returns-clause-cabling c = ports-slots

pub returns-clause-same : goal.returns-clause-same
returns-clause-same c = slots-same

pub returns-clause-lists : goal.returns-clause-lists
returns-clause-lists c = seen-emitted

pub returns-clause-settled : goal.returns-clause-settled
returns-clause-settled c = settled-emitted
