-- What the two ends of a cable know of each other's lists.
use Rattle.std.specs.Prelude.{◌≡◌, ◌⊎◌, List, [], ◌++◌, Some, slice_get, true, ℕ}
use Rattle.cabling.specs.declared.cable.End.{End}
use Rattle.cabling.specs.Wiring.{far}
use Rattle.port_state.specs.Heard.{hears_packets}
use Rattle.port_state.specs.Machine.{PortNode}
use Rattle.cable_world.specs.World.{CableWorld, wire_of}
use Rattle.cable_world.specs.Signals.{signals_of}
use Rattle.outcomes.specs.Messages.{quads_in}

-- the packets under way from an end, the oldest first
abbrev pub packets_from : CableWorld → End → List ℕ
packets_from w a = quads_in (signals_of (wire_of w a).signals)

-- the list of the node y, followed by the packets under way to it from end a, is the list of the
-- node x, and no packet is under way to that node from end b
pub record Follows (w : CableWorld) (a b : End) (x y : PortNode) : Type 0 where
  pub joined : y.state.list.items ++ packets_from w a ≡ x.state.list.items
  pub none : packets_from w b ≡ []

-- on each cable whose two ends are in self identify or A0, one list follows the other
abbrev pub ListsFollow : CableWorld → Type 0
ListsFollow w =
    (a b : End) (x y : PortNode) → far w.cabling a ≡ Some b →
    slice_get w.nodes a.node ≡ Some x → slice_get w.nodes b.node ≡ Some y →
    hears_packets x.state.view.phase ≡ true → hears_packets y.state.view.phase ≡ true →
    Follows w a b x y ⊎ Follows w b a y x
