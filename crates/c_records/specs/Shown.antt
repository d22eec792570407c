-- A bus tree as C sees it: records of numbers, with 1 for yes and 0 for no, and 63, which names no
-- node, where there is none.
-- Statuses: 0 ok, 3 too short.
use Rattle.std.specs.Prelude.{◌≡◌, ℕ, ◌+◌, ◌<◌, ◌≤◌, Option, Some, None, List, length, slice_get, slice_index_or}
use Rattle.self_id.specs.declared.node.PortStatus.{PortStatus}
use Rattle.self_id.specs.Node.{Node, status_bits}
use Rattle.topology_stack.specs.Tree.{Tree, walk}
use Rattle.topology_stack.specs.Far.{Far}
use Rattle.topology_stack.specs.Elect.{elected}
use Rattle.topology_stack.specs.Text.{truth}
use Rattle.c_records.specs.declared.records.SlotRecord.{SlotRecord}
use Rattle.c_records.specs.declared.records.NodeRecord.{NodeRecord}
use Rattle.c_records.specs.declared.records.BusRecord.{BusRecord}

abbrev pub id_or_none : Option ℕ → ℕ
id_or_none None = 63
id_or_none (Some id) = id

-- a slot with this status, and what stands at its other end
abbrev pub slot_record : PortStatus → Option ℕ → SlotRecord
slot_record status peer = record { status = status_bits status; peer = id_or_none peer }

-- a slot that a node doesn't have
abbrev pub no_slot : SlotRecord
no_slot = record { status = 0; peer = 63 }

-- the record of this slot of a tree's node, or of a slot behind its last
pub record IsSlotOf (t : Tree) (id slot : ℕ) (r : SlotRecord) : Type 0 where
  pub shown : (n : Node) (status : PortStatus) (peer : Option ℕ) → slice_get (walk t) id ≡ Some n →
      slice_get n.ports slot ≡ Some status → Far t id slot peer → r ≡ slot_record status peer
  pub blank : (n : Node) → slice_get (walk t) id ≡ Some n → length n.ports ≤ slot → r ≡ no_slot

-- what a node says of itself, beside slots that have these records
abbrev pub said : ℕ → Node → List SlotRecord → NodeRecord
said id n slots = record {
  id = id;
  link = truth n.attrs.link;
  gap = n.attrs.gap;
  speed = n.attrs.speed;
  contender = truth n.attrs.contender;
  power = n.attrs.power;
  initiated = truth n.attrs.initiated;
  slot_count = length n.ports;
  slots = slots;
}

-- the record of a tree's node with this ID
pub record IsNodeRecord (t : Tree) (id : ℕ) (r : NodeRecord) : Type 0 where
  pub node : Node
  pub at : slice_get (walk t) id ≡ Some node
  pub said_is : r ≡ said id node r.slots
  pub slots : (slot : ℕ) → slot < 27 → IsSlotOf t id slot (slice_index_or r.slots slot no_slot)

-- the records of a tree's nodes are written by ID, and what stood behind them stays
pub record AreNodesShown (t : Tree) (before after : List NodeRecord) : Type 0 where
  pub room : length after ≡ length before
  pub nodes : (id : ℕ) (d : NodeRecord) → id < length (walk t) →
      IsNodeRecord t id (slice_index_or after id d)
  pub rest : (id : ℕ) (d : NodeRecord) → length (walk t) ≤ id →
      slice_index_or after id d ≡ slice_index_or before id d

-- the record of a tree's bus
pub record IsBusRecord (t : Tree) (r : BusRecord) : Type 0 where
  pub nodes : r.nodes ≡ length (walk t)
  pub root : r.root + 1 ≡ length (walk t)
  pub manager : r.manager ≡ id_or_none (elected t)

-- the nodes of a tree and its bus are shown, or the bus alone where there is no room for the nodes
pub data TellsNodes (t : Tree) (before after : List NodeRecord) (bus : BusRecord) (status : ℕ)
    : Type 0 where
  shown : IsBusRecord t bus → AreNodesShown t before after → status ≡ 0 →
      TellsNodes t before after bus status
  too_short : IsBusRecord t bus → length before < length (walk t) → after ≡ before →
      status ≡ 3 → TellsNodes t before after bus status
