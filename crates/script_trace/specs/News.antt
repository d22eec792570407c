-- What is new at some nodes, where it is known of the others that they show nothing new.
use Rattle.std.specs.Prelude.{◌≡◌, ◌+◌, ◌==◌, Bool, false, List, [], ◌∷◌, All, IsTrue, Some, drop, length, slice_get, slice_index_or, if◌then◌else◌}
use Rattle.std.specs.Int.{bit_at}
use Rattle.cabling.specs.NodeSet.{Nodes, Holds}
use Rattle.port_state.specs.declared.view.View.{View}
use Rattle.port_state.specs.Ports.{PortNumber}
use Rattle.port_state.specs.Machine.{PortNode}
use Rattle.cable_world.specs.declared.wire.Travelling.{Travelling}
use Rattle.cable_world.specs.World.{CableWorld, NodeNumber, wire_of}
use Rattle.script_trace.specs.Event.{Seen}

-- of what the nodes from number k on showed, that of the nodes that are in the set
abbrev pub picked : Nodes → NodeNumber → List Seen → List Seen
picked set k [] = []
picked set k (s ∷ seen) =
    if bit_at set k == 1 then s ∷ picked set (k + 1) seen else picked set (k + 1) seen

-- A node, which showed this before, now has this view: its clock missed no turn, no more than its timer
-- is other, and behind the signals that were there before none was sent just now.
pub record ShowsNothingNew (w : CableWorld) (k : NodeNumber) (s : Seen) (v : View) : Type 0 where
  pub ticked : s.missed ≡ false
  pub view : v ≡ record s.view { timer = v.timer }
  pub sent :
      (port : PortNumber) →
      All (λ (t : Travelling). (t.age == 0) ≡ false)
      (drop (slice_index_or s.there port 0) (wire_of w (record { node = k; port = port })).signals)

-- so it is for each node that isn't in the set
abbrev pub IsNewWithin : Nodes → List Seen → CableWorld → Type 0
IsNewWithin set seen w =
    (k : NodeNumber) (s : Seen) (x : PortNode) → slice_get seen k ≡ Some s →
    slice_get w.nodes k ≡ Some x → (Holds set k → ⊥) → ShowsNothingNew w k s x.state.view

-- What the nodes of a set showed is enough of what all nodes did to tell what is new in a world. Who
-- doesn't look at it needs none of it.
pub record IsEnough (looks : Bool) (set : Nodes) (seen all : List Seen) (w : CableWorld) : Type 0 where
  pub count : length all ≡ length w.nodes
  pub picked : IsTrue looks → seen ≡ picked set 0 all
  pub others : IsNewWithin set all w
