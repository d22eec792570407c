-- What comes to be another value at a node.
use Rattle.std.specs.Prelude.{ℕ, ◌+◌, ◌==◌, ◌&&◌, not, Bool, List, [], ◌∷◌, ◌++◌, codes, cond, drop, slice_index_or}
use Rattle.port_state.specs.declared.signal.Signal.{Signal}
use Rattle.port_state.specs.declared.signal.Signal.TheVariants as signal
use Rattle.port_state.specs.declared.ports.PortView.{PortView}
use Rattle.port_state.specs.declared.view.View.{View}
use Rattle.port_state.specs.Ports.{PortNumber}
use Rattle.port_state.specs.PowerOn.{free_port}
use Rattle.cable_world.specs.declared.wire.Travelling.{Travelling}
use Rattle.cable_world.specs.World.{CableWorld, NodeNumber, wire_of}
use Rattle.script_trace.specs.Event.{Seen, state_number}
use Rattle.script_trace.specs.waves.Value.{node_line, port_line, number, flag, id_value, id_number, is_root, level_number, role, state_lines, role_lines, shown_lines, sent_value}

-- a line, unless these numbers are equal
abbrev pub unless_same : ℕ → ℕ → List ℕ → List ℕ
unless_same before after line = cond (before == after) [] line

-- ---- a node's own

-- the clock missed the turn
abbrev pub miss_change : NodeNumber → Bool → List ℕ
miss_change node missed = cond missed (node_line node (codes "m") (codes "1")) []

abbrev pub state_change : NodeNumber → View → View → List ℕ
state_change node u v =
    unless_same (state_number u.phase) (state_number v.phase) (state_lines node v.phase)

abbrev pub id_change : NodeNumber → View → View → List ℕ
id_change node u v =
    unless_same (id_number u.id) (id_number v.id) (node_line node (codes "i") (id_value v.id))

-- the configuration timed out, or a reset ended that
abbrev pub timeout_change : NodeNumber → View → View → List ℕ
timeout_change node u v =
    unless_same (flag u.timed_out) (flag v.timed_out)
    (node_line node (codes "t") (number 1 (flag v.timed_out)))

abbrev pub root_change : NodeNumber → View → View → List ℕ
root_change node u v =
    unless_same (flag (is_root u)) (flag (is_root v))
    (node_line node (codes "r") (number 1 (flag (is_root v))))

-- ---- a port's

-- what a node shows of a port
abbrev pub port_at : View → PortNumber → PortView
port_at v port = slice_index_or v.ports port free_port

abbrev pub role_change : NodeNumber → View → View → PortNumber → PortView → List ℕ
role_change node u v port p =
    unless_same (role u.parent port (port_at u port)) (role v.parent port p)
    (role_lines node port (role v.parent port p))

abbrev pub shown_change : NodeNumber → View → PortNumber → PortView → List ℕ
shown_change node u port p =
    unless_same (level_number (port_at u port).shown) (level_number p.shown)
    (shown_lines node port p.shown)

-- nothing is sent any more where the cable is gone
abbrev pub gone_change : NodeNumber → View → PortNumber → PortView → List ℕ
gone_change node u port p =
    cond ((port_at u port).connected && not p.connected) (sent_value node port (codes "s- ") 4) []

-- A signal that was sent: a level stays until another is sent; a grant, a packet and the end of packets
-- are gone at once.
abbrev pub signal_line : NodeNumber → PortNumber → Signal → List ℕ
signal_line node port signal.Reset = sent_value node port (codes "sBUS_RESET ") 0
signal_line node port signal.Idle = sent_value node port (codes "sIDLE ") 1
signal_line node port signal.Parent = sent_value node port (codes "sTX_PARENT_NOTIFY ") 2
signal_line node port signal.Child = sent_value node port (codes "sTX_CHILD_NOTIFY ") 3
signal_line node port signal.Grant = port_line node port (codes "g") (codes "1")
signal_line node port (signal.Packet quad) = port_line node port (codes "p") (number 32 quad)
signal_line node port signal.Done = port_line node port (codes "d") (codes "1")

-- one that was sent just now
abbrev pub sent_change : NodeNumber → PortNumber → Travelling → List ℕ
sent_change node port t = cond (t.age == 0) (signal_line node port t.signal) []

abbrev pub sent_changes : NodeNumber → PortNumber → List Travelling → List ℕ
sent_changes node port [] = []
sent_changes node port (t ∷ ts) = sent_change node port t ++ sent_changes node port ts

-- all of a port; of what is under way on each wire the first so many signals were there before
abbrev pub port_changes : CableWorld → NodeNumber → Seen → View → PortNumber → PortView → List ℕ
port_changes w node seen v port p =
    role_change node seen.view v port p
    ++ (shown_change node seen.view port p
    ++ (gone_change node seen.view port p
    ++ sent_changes node port
    (drop (slice_index_or seen.there port 0)
    (wire_of w (record { node = node; port = port })).signals)))

-- the ports from a number on
abbrev pub all_port_changes : CableWorld → NodeNumber → Seen → View → PortNumber → List PortView → List ℕ
all_port_changes w node seen v port [] = []
all_port_changes w node seen v port (p ∷ ports) =
    port_changes w node seen v port p ++ all_port_changes w node seen v (port + 1) ports

-- ---- all of a node

-- a node, which showed this before and now has this view
abbrev pub node_changes : CableWorld → NodeNumber → Seen → View → List ℕ
node_changes w node seen v =
    miss_change node seen.missed
    ++ (state_change node seen.view v
    ++ (id_change node seen.view v
    ++ (timeout_change node seen.view v
    ++ (root_change node seen.view v
    ++ all_port_changes w node seen v 0 v.ports))))
