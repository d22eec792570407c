-- What stands before the first change: the variables, and their values when all nodes have just powered
-- on.
use Rattle.std.specs.Prelude.{ℕ, ◌+◌, Bool, Option, None, Some, List, [], ◌∷◌, ◌++◌, codes, cond}
use Rattle.port_state.specs.declared.signal.Level.TheVariants as level
use Rattle.port_state.specs.declared.signal.Phase.TheVariants as phase
use Rattle.port_state.specs.declared.ports.PortView.{PortView}
use Rattle.port_state.specs.Ports.{PortNumber}
use Rattle.port_state.specs.Clock.{is_even}
use Rattle.port_state.specs.Machine.{PortNode}
use Rattle.cable_world.specs.World.{CableWorld, NodeNumber}
use Rattle.script_text.specs.ReportText.{Names, spaced, numbered}
use Rattle.script_trace.specs.Voice.{Legend}
use Rattle.script_trace.specs.waves.Value.{node_code, port_code, node_line, port_line, state_lines, role_lines, shown_lines, sent_value}

-- `$var TYPE CODE NAME $end`
unfoldable pub variable : List ℕ → List ℕ → List ℕ → List ℕ
variable type code name =
    codes "$var " ++ (type ++ (codes " " ++ (code ++ (codes " " ++ (name ++ codes " $end\n")))))

-- ---- a port

-- `pN` and the word
abbrev pub port_name : PortNumber → List ℕ → List ℕ
port_name port word = numbered (codes "p") port ++ word

abbrev pub port_variable : NodeNumber → PortNumber → List ℕ → List ℕ → List ℕ → List ℕ
port_variable node port type letter word =
    variable type (port_code node port letter) (port_name port word)

-- the role of a port and its levels, each as a word and as a number
unfoldable pub role_variables : NodeNumber → PortNumber → List ℕ
role_variables node port =
    port_variable node port (codes "string 1") (codes "r") (codes "_role")
    ++ port_variable node port (codes "reg 2") (codes "a") (codes "_role_code")

unfoldable pub level_variables : NodeNumber → PortNumber → List ℕ
level_variables node port =
    port_variable node port (codes "string 1") (codes "h") (codes "_shows")
    ++ (port_variable node port (codes "reg 2") (codes "b") (codes "_shows_code")
    ++ (port_variable node port (codes "string 1") (codes "s") (codes "_sends")
    ++ port_variable node port (codes "reg 3") (codes "c") (codes "_sends_code")))

unfoldable pub port_variables : NodeNumber → PortNumber → List ℕ
port_variables node port =
    role_variables node port
    ++ (level_variables node port
    ++ (port_variable node port (codes "event 1") (codes "g") (codes "_grant")
    ++ (port_variable node port (codes "reg 32") (codes "p") (codes "_packet")
    ++ port_variable node port (codes "event 1") (codes "d") (codes "_done"))))

-- no cable is there
unfoldable pub port_values : NodeNumber → PortNumber → List ℕ
port_values node port =
    role_lines node port 0
    ++ (shown_lines node port level.Idle
    ++ (sent_value node port (codes "s- ") 4 ++ port_line node port (codes "p") (codes "bx ")))

-- so it is for the ports from a number on
abbrev pub all_port_variables : NodeNumber → PortNumber → List PortView → List ℕ
all_port_variables node port [] = []
all_port_variables node port (p ∷ ports) =
    port_variables node port ++ all_port_variables node (port + 1) ports

abbrev pub all_port_values : NodeNumber → PortNumber → List PortView → List ℕ
all_port_values node port [] = []
all_port_values node port (p ∷ ports) =
    port_values node port ++ all_port_values node (port + 1) ports

-- ---- a node

unfoldable pub node_variables : NodeNumber → List ℕ
node_variables node =
    variable (codes "string 1") (node_code node (codes "s")) (codes "state")
    ++ (variable (codes "reg 3") (node_code node (codes "c")) (codes "state_code")
    ++ (variable (codes "reg 6") (node_code node (codes "i")) (codes "phy_ID")
    ++ (variable (codes "reg 1") (node_code node (codes "t")) (codes "timeout")
    ++ variable (codes "reg 1") (node_code node (codes "r")) (codes "root"))))

-- that the clock missed a turn: there is no such variable where the clock is even, as it then is in the
-- whole run
abbrev pub missed_variable : NodeNumber → Bool → List ℕ
missed_variable node steady =
    cond steady [] (variable (codes "event 1") (node_code node (codes "m")) (codes "missed"))

-- the module of a node, by its name
abbrev pub node_scope : Names → NodeNumber → Bool → List PortView → List ℕ
node_scope names node steady ports =
    codes "$scope module" ++ (spaced names node ++ (codes " $end\n"
    ++ (node_variables node ++ (missed_variable node steady
    ++ (all_port_variables node 0 ports ++ codes "$upscope $end\n")))))

-- R0, and no ID
unfoldable pub own_values : NodeNumber → List ℕ
own_values node =
    state_lines node phase.ResetStart
    ++ (node_line node (codes "i") (codes "bx ")
    ++ (node_line node (codes "t") (codes "b0 ") ++ node_line node (codes "r") (codes "b0 ")))

abbrev pub node_values : NodeNumber → List PortView → List ℕ
node_values node ports = own_values node ++ all_port_values node 0 ports

-- so it is for the nodes from a number on
abbrev pub all_scopes : Names → NodeNumber → List PortNode → List ℕ
all_scopes names node [] = []
all_scopes names node (x ∷ nodes) =
    node_scope names node (is_even x.clock) x.state.view.ports ++ all_scopes names (node + 1) nodes

abbrev pub all_values : NodeNumber → List PortNode → List ℕ
all_values node [] = []
all_values node (x ∷ nodes) = node_values node x.state.view.ports ++ all_values (node + 1) nodes

-- ---- the whole

unfoldable pub picoseconds : ℕ → ℕ → List ℕ
picoseconds nanoseconds d =
    numbered (codes "$comment One unit of time is one picosecond, and ") d
    ++ (numbered (codes " turns are ") nanoseconds ++ codes " ns. $end\n$timescale 1 ps $end\n")

-- what one unit of time is: a turn, or a picosecond where d turns are so many nanoseconds
abbrev pub unit : Option ℕ → ℕ → List ℕ
unit None d =
    codes "$comment One unit of time is one turn, which is no time of the standard. $end\n$timescale 1 ns $end\n"
unit (Some nanoseconds) d = picoseconds nanoseconds d

unfoldable pub opening : Option ℕ → ℕ → List ℕ
opening nanoseconds d = codes "$comment busview waves $end\n" ++ unit nanoseconds d

-- the head of the dump of a bus with this legend
unfoldable pub head : Legend → CableWorld → List ℕ
head legend w =
    opening legend.nanoseconds w.delay
    ++ (all_scopes legend.names 0 w.nodes
    ++ (codes "$enddefinitions $end\n#0\n$dumpvars\n" ++ (all_values 0 w.nodes ++ codes "$end\n")))
