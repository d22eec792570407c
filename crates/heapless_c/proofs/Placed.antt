-- A node in its tree, between its parent and its children.
use Rattle.std.proofs.Common.{◌≡◌, ℕ, ◌<◌, ◌≤◌, Option, Some, List, length, get_or}
use Rattle.std.specs.Prelude.{slice_get}
use Rattle.self_id.specs.declared.node.PortStatus.TheVariants.{Absent}
use Rattle.self_id.specs.Node.{Node}
use Rattle.topology_stack.specs.Tree.{Tree, walk}
use Rattle.topology_stack.specs.Stored.{ends_of}
use Rattle.topology_stack.proofs.Lemmas.{far_is}
use Rattle.c_records.specs.declared.records.SlotRecord.{SlotRecord}
use Rattle.c_records.specs.Shown.{slot_record, no_slot, IsSlotOf}
use Rattle.c_records.proofs.Lemmas.{slot_of, slot_past}
use Rattle.heapless_c.specs.Reading.{IsPlaced}

-- a slot of the node
pub placed_slot : (t : Tree) (id k : ℕ) (n : Node) (parent : ℕ) (children : List ℕ) (far : Option ℕ) (r : SlotRecord) →
    IsPlaced t id n parent children → k < length n.ports →
    slice_get (ends_of parent children n.ports) k ≡ Some far →
    r ≡ slot_record (get_or n.ports k Absent) far → IsSlotOf t id k r
placed_slot t id k n parent children far r p inside end is =
    slot_of t id k n far r p.node inside (far_is t (walk t) p.parents p.lists id k n parent children far p.stored p.node p.above p.below end) is

-- a slot behind the last
pub placed_past : (t : Tree) (id k : ℕ) (n : Node) (parent : ℕ) (children : List ℕ) (r : SlotRecord) →
    IsPlaced t id n parent children → length n.ports ≤ k → r ≡ no_slot → IsSlotOf t id k r
placed_past t id k n parent children r p past is = slot_past t id k n r p.node past is
