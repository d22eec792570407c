-- A desk with a computer, a hub, a disk, a camera and a tape. The camera is pulled in the middle of
-- self identify, while packets are under way, and a wire is held.
use Rattle.std.proofs.Common.{◌≡◌, ℕ, true, false, List, [], ◌∷◌, Some, refl, map}
use Rattle.self_id.specs.Group.{group}
use Rattle.port_state.specs.declared.signal.Phase.TheVariants.{SelfIdent, Ready}
use Rattle.port_state.specs.declared.signal.Signal.{Signal}
use Rattle.port_state.specs.declared.signal.Signal.TheVariants as signal
use Rattle.port_state.specs.Entry.{enter}
use Rattle.port_state.specs.Heard.{on_signal}
use Rattle.port_state.specs.Tick.{tick}
use Rattle.port_state.specs.Machine.{PortNode}
use Rattle.cable_world.specs.Wire.{Travelling, empty_wire}
use Rattle.cable_world.specs.World.{CableWorld, world_of_nodes, wire_of}
use Rattle.cable_world.specs.Turn.{turn, turns_after}
use Rattle.cable_world.specs.Act.{hold}
use Rattle.cable_world.proofs.worked.Summary.{node_of, attrs, at, after_plug, after_pull}

abbrev pub computer : ℕ
computer = 0

abbrev pub hub : ℕ
hub = 1

abbrev pub disk : ℕ
disk = 2

abbrev pub camera : ℕ
camera = 3

abbrev pub tape : ℕ
tape = 4

abbrev pub nodes : List PortNode
nodes =
    node_of 3 (attrs true 2 true) 0 ∷
    node_of 6 (attrs false 2 false) 1 ∷
    node_of 2 (attrs true 2 false) 0 ∷
    node_of 1 (attrs true 0 false) 0 ∷
    node_of 2 (attrs true 0 false) 0 ∷ []

-- the hub is plugged first, the disk 300 turns later, the camera and the tape after 10 turns more
abbrev pub plugged_in : CableWorld
plugged_in =
    after_plug (at tape 0) (at hub 2) (after_plug (at camera 0) (at hub 4) (turns_after 10
    (after_plug (at disk 0) (at hub 1) (turns_after 300 (after_plug (at computer 0) (at hub 0) (world_of_nodes 4 nodes))))))

-- 270 turns later: the hub is the root, and all but it have identified themselves. The camera's
-- packet and its Done are on their way to the hub.
abbrev pub before : CableWorld
before = turns_after 270 plugged_in

named :
    map (λ (x : PortNode). x.state.view.phase) before.nodes
    ≡ Ready ∷ SelfIdent ∷ Ready ∷ Ready ∷ Ready ∷ []
unfolding turn turns_after enter tick on_signal group
named = refl

abbrev newly : Signal → Travelling
newly s = record { signal = s; age = 0 }

under-way :
    (wire_of before (at camera 0)).signals
    ≡ newly (signal.Packet 0x837f0082) ∷ newly signal.Done ∷ []
unfolding turn turns_after enter tick on_signal group
under-way = refl

-- then the wire from the hub to the computer is held, and the camera is pulled; what was under way
-- is lost
abbrev pub camera_out : CableWorld
camera_out = after_pull (at camera 0) (hold (at hub 0) 3 before)

lost : wire_of camera_out (at camera 0) ≡ empty_wire
unfolding turn turns_after enter tick on_signal group
lost = refl

abbrev pub list : List ℕ
list = 0x807f8090 ∷ 0x817f0090 ∷ 0x823f80bf ∷ 0x82815000 ∷ 0x837f88d4 ∷ []

abbrev pub own : List ℕ
own = 0x807f0042 ∷ []

-- After 870 turns the four that are left have one list, with the computer as root. The computer
-- drew one coin, and no other node drew any. The camera is a bus of its own.
settled : let w = turns_after 290 camera_out in
    (map (λ (x : PortNode). x.state.list.items) w.nodes ≡ list ∷ list ∷ list ∷ own ∷ list ∷ [])
    × (w.changed ≡ 865 ∷ 866 ∷ 867 ∷ 841 ∷ 867 ∷ [])
    × (map (λ (x : PortNode). x.state.view.id) w.nodes ≡ Some 3 ∷ Some 2 ∷ Some 0 ∷ Some 0 ∷ Some 1 ∷ [])
    × (map (λ (x : PortNode). x.state.view.draws) w.nodes ≡ 1 ∷ 0 ∷ 0 ∷ 0 ∷ 0 ∷ [])
unfolding turn turns_after enter tick on_signal group
settled = (refl, refl, refl, refl)
