-- The variables of a dump and their values, as IEEE Std 1364-2005, 18.2, writes them in a Value Change
-- Dump. States and levels are strings, as the viewers of such dumps know them.
use Rattle.std.specs.Prelude.{ℕ, zero, suc, ◌+◌, ◌/◌, ◌%◌, ◌^◌, ◌==◌, ◌&&◌, nat_le, is_none, Bool, true, false, List, [], ◌∷◌, ◌++◌, codes, Option, None, Some, if◌then◌else◌}
use Rattle.port_state.specs.declared.signal.Level.{Level}
use Rattle.port_state.specs.declared.signal.Level.TheVariants as level
use Rattle.port_state.specs.declared.signal.Phase.{Phase}
use Rattle.port_state.specs.declared.signal.Phase.TheVariants as phase
use Rattle.port_state.specs.declared.ports.PortView.{PortView}
use Rattle.port_state.specs.declared.view.View.{View}
use Rattle.port_state.specs.Ports.{PortNumber, is_port}
use Rattle.cable_world.specs.World.{NodeNumber}
use Rattle.script_trace.specs.Event.{state_number}

-- ---- identifier codes: printable characters

-- of a node's variable: one for the node, and one for the variable
abbrev pub node_code : NodeNumber → List ℕ → List ℕ
node_code node letter = (33 + node) ∷ letter

-- of a port's: one for the port between them
abbrev pub port_code : NodeNumber → PortNumber → List ℕ → List ℕ
port_code node port letter = (33 + node) ∷ (33 + port) ∷ letter

-- ---- lines

-- this value of a node's variable
abbrev pub node_line : NodeNumber → List ℕ → List ℕ → List ℕ
node_line node letter value = value ++ (node_code node letter ++ codes "\n")

-- this value of a port's variable
abbrev pub port_line : NodeNumber → PortNumber → List ℕ → List ℕ → List ℕ
port_line node port letter value = value ++ (port_code node port letter ++ codes "\n")

-- ---- values

-- the lowest so many binary digits of a number
abbrev pub binary : ℕ → ℕ → List ℕ
binary zero n = []
binary (suc digits) n = (48 + n / 2 ^ digits % 2) ∷ binary digits n

-- a number of so many binary digits
abbrev pub number : ℕ → ℕ → List ℕ
number digits n = codes "b" ++ (binary digits n ++ codes " ")

-- 1 or 0
abbrev pub flag : Bool → ℕ
flag true = 1
flag false = 0

-- the standard's name of a state; all of Self-ID is S0
abbrev pub state_value : Phase → List ℕ
state_value phase.ResetStart = codes "sR0 "
state_value phase.ResetWait = codes "sR1 "
state_value phase.TreeStart = codes "sT0 "
state_value phase.ChildShake = codes "sT1 "
state_value phase.ParentShake = codes "sT2 "
state_value phase.Contend = codes "sT3 "
state_value phase.SelfIdent = codes "sS0 "
state_value phase.Ready = codes "sA0 "

-- an ID, which is unknown until it is taken
abbrev pub id_value : Option ℕ → List ℕ
id_value None = codes "bx "
id_value (Some id) = number 6 id

-- for each ID another number
abbrev pub id_number : Option ℕ → ℕ
id_number None = 0
id_number (Some id) = id + 1

-- the node came through tree identification, and no port leads to a parent
abbrev pub is_root : View → Bool
is_root v = is_none v.parent && nat_le 6 (state_number v.phase)

-- the level that a port shows
abbrev pub level_value : Level → List ℕ
level_value level.Reset = codes "sBUS_RESET "
level_value level.Idle = codes "sIDLE "
level_value level.Parent = codes "sRX_PARENT_NOTIFY "
level_value level.Child = codes "sRX_CHILD_NOTIFY "

abbrev pub level_number : Level → ℕ
level_number level.Reset = 0
level_number level.Idle = 1
level_number level.Parent = 2
level_number level.Child = 3

-- whether a port leads to the parent, 2, to a child, 1, or to neither, 0
abbrev pub role : Option PortNumber → PortNumber → PortView → ℕ
role parent port p = if is_port parent port then 2 else flag p.child

abbrev pub role_value : ℕ → List ℕ
role_value role =
    if role == 2 then codes "sparent " else (if role == 1 then codes "schild " else codes "s- ")

-- ---- a word, and in the variable beside it its number, for readers that show no words

-- a state; its number is that of the standard's order
unfoldable pub state_lines : NodeNumber → Phase → List ℕ
state_lines node phase =
    node_line node (codes "s") (state_value phase)
    ++ node_line node (codes "c") (number 3 (state_number phase))

unfoldable pub role_lines : NodeNumber → PortNumber → ℕ → List ℕ
role_lines node port role =
    port_line node port (codes "r") (role_value role) ++ port_line node port (codes "a") (number 2 role)

unfoldable pub shown_lines : NodeNumber → PortNumber → Level → List ℕ
shown_lines node port level =
    port_line node port (codes "h") (level_value level)
    ++ port_line node port (codes "b") (number 2 (level_number level))

-- what is sent: the numbers of the levels are those of what is shown, and 4 is that no cable is there
unfoldable pub sent_value : NodeNumber → PortNumber → List ℕ → ℕ → List ℕ
sent_value node port value code =
    port_line node port (codes "s") value ++ port_line node port (codes "c") (number 3 code)
