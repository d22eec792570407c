-- What the step table asks of a node's ports.
use Rattle.std.specs.Prelude.{ℕ, Bool, true, false, not, ◌&&◌, ◌==◌, List, count_by, Option, Some, None, if◌then◌else◌, slice_get, slice_set}
use Rattle.std.specs.List.{list_all, position_from}
use Rattle.port_state.specs.declared.signal.Level.{Level}
use Rattle.port_state.specs.declared.signal.Level.TheVariants as level
use Rattle.port_state.specs.declared.ports.PortView.{PortView}

-- the number of a port of a node, from 0
abbrev pub PortNumber : Type 0
PortNumber = ℕ

abbrev pub is_idle : Level → Bool
is_idle level.Idle = true
is_idle l = false

abbrev pub is_parent : Level → Bool
is_parent level.Parent = true
is_parent l = false

abbrev pub is_child : Level → Bool
is_child level.Child = true
is_child l = false

-- a connected port that shows Parent: the neighbour asks this node to be its parent
abbrev pub asks : PortView → Bool
asks p = p.connected && is_parent p.shown

-- a connected port that doesn't
abbrev pub is_remaining : PortView → Bool
is_remaining p = p.connected && not (is_parent p.shown)

-- a connected port that leads to a child which hasn't identified itself
abbrev pub is_unnamed : PortView → Bool
is_unnamed p = p.connected && (p.child && not p.named)

-- how many ports are connected
abbrev pub connected_count : List PortView → ℕ
connected_count ports = count_by (λ p. p.connected) ports

-- every connected port passes a test
abbrev pub every : (PortView → Bool) → List PortView → Bool
every test ports = list_all (λ p. if p.connected then test p else true) ports

-- the lowest port that passes a test
abbrev pub lowest : (PortView → Bool) → List PortView → Option PortNumber
lowest test ports = position_from test 0 ports

-- a port that exists passes a test
abbrev pub passes : (PortView → Bool) → Option PortView → Bool
passes test None = false
passes test (Some p) = test p

-- the port of this number exists and passes a test
abbrev pub port_is : (PortView → Bool) → List PortView → PortNumber → Bool
port_is test ports k = passes test (slice_get ports k)

-- the port of this number exists and is connected
abbrev pub is_connected : List PortView → PortNumber → Bool
is_connected ports k = port_is (λ p. p.connected) ports k

-- this port, if any, has this number
abbrev pub is_port : Option PortNumber → PortNumber → Bool
is_port None k = false
is_port (Some p) k = p == k

-- the ports, the one of this number changed
abbrev pub change_port_at :
    Option PortView → PortNumber → (PortView → PortView) → List PortView → List PortView
change_port_at None k change ports = ports
change_port_at (Some p) k change ports = slice_set ports k (change p)

abbrev pub change_port : PortNumber → (PortView → PortView) → List PortView → List PortView
change_port k change ports = change_port_at (slice_get ports k) k change ports
