-- What happens at a node from one moment to the next, as text: a line for each thing.
use Rattle.std.specs.Prelude.{ℕ, ◌+◌, ◌-◌, ◌==◌, ◌&&◌, ◌||◌, not, nat_lt, nat_le, Bool, List, [], ◌∷◌, ◌++◌, codes, cond, drop, is_some, is_none, slice_index_or, unwrap_or}
use Rattle.std.specs.Int.{bit_at}
use Rattle.topology_stack.specs.Hex.{hex}
use Rattle.port_state.specs.declared.signal.Signal.{Signal}
use Rattle.port_state.specs.declared.signal.Signal.TheVariants as signal
use Rattle.port_state.specs.declared.signal.Phase.{Phase}
use Rattle.port_state.specs.declared.signal.Phase.TheVariants as phase
use Rattle.port_state.specs.declared.ports.PortView.{PortView}
use Rattle.port_state.specs.declared.view.View.{View}
use Rattle.port_state.specs.Ports.{PortNumber, port_is}
use Rattle.cable_world.specs.declared.wire.Travelling.{Travelling}
use Rattle.cable_world.specs.World.{CableWorld, NodeNumber, wire_of}
use Rattle.script_text.specs.ReportText.{Names, spaced, numbered}

-- ---- lines

-- `turn T NAME`: with that the lines of a node begin
unfoldable pub head : Names → ℕ → NodeNumber → List ℕ
head names turn node = numbered (codes "turn ") turn ++ spaced names node

-- a line that begins so, with these words
abbrev pub line_of : List ℕ → List ℕ → List ℕ
line_of front words = front ++ (words ++ codes "\n")

-- ---- states

-- the standard's name of a state; Self-ID is entered at S0
abbrev pub state_words : Phase → List ℕ
state_words phase.ResetStart = codes " enters R0"
state_words phase.ResetWait = codes " enters R1"
state_words phase.TreeStart = codes " enters T0"
state_words phase.ChildShake = codes " enters T1"
state_words phase.ParentShake = codes " enters T2"
state_words phase.Contend = codes " enters T3"
state_words phase.SelfIdent = codes " enters S0"
state_words phase.Ready = codes " enters A0"

-- the number of a state in the standard's order
abbrev pub state_number : Phase → ℕ
state_number phase.ResetStart = 0
state_number phase.ResetWait = 1
state_number phase.TreeStart = 2
state_number phase.ChildShake = 3
state_number phase.ParentShake = 4
state_number phase.Contend = 5
state_number phase.SelfIdent = 6
state_number phase.Ready = 7

-- another state was entered, or R0 once more
abbrev pub enters : View → View → Bool
enters before after =
    not (state_number before.phase == state_number after.phase)
    || not (before.resets == after.resets)

abbrev pub state_line : List ℕ → View → View → List ℕ
state_line front before after = cond (enters before after) (line_of front (state_words after.phase)) []

-- the configuration timed out
abbrev pub timeout_line : List ℕ → View → View → List ℕ
timeout_line front before after =
    cond (not before.timed_out && after.timed_out)
    (line_of front (codes " configuration timeout")) []

-- ---- roles

abbrev pub parent_line : List ℕ → View → View → List ℕ
parent_line front before after =
    cond (is_none before.parent && is_some after.parent)
    (line_of front (numbered (codes " port ") (unwrap_or after.parent 0) ++ codes " to its parent"))
    []

-- port k came to lead to a child
abbrev pub child_line : List ℕ → List PortView → PortNumber → PortView → List ℕ
child_line front before k p =
    cond (p.child && not (port_is (λ q. q.child) before k))
    (line_of front (numbered (codes " port ") k ++ codes " to a child")) []

-- each of the ports from number k on that did
abbrev pub child_lines : List ℕ → List PortView → PortNumber → List PortView → List ℕ
child_lines front before k [] = []
child_lines front before k (p ∷ ports) =
    child_line front before k p ++ child_lines front before (k + 1) ports

-- ---- coins and IDs

-- the coin, where it is one of the first 32 since the reset
abbrev pub coin_digit : View → List ℕ
coin_digit v =
    cond (nat_le v.draws 32) (numbered (codes " ") (bit_at v.first_draws (v.draws - 1))) []

abbrev pub coin_line : List ℕ → View → View → List ℕ
coin_line front before after =
    cond (nat_lt before.draws after.draws)
    (line_of front (codes " coin" ++ (coin_digit after ++ numbered (codes " wait ") after.wait))) []

abbrev pub id_line : List ℕ → View → View → List ℕ
id_line front before after =
    cond (is_none before.id && is_some after.id)
    (line_of front (numbered (codes " phy_ID ") (unwrap_or after.id 0))) []

-- ---- clocks

-- the clock of the node missed the turn
abbrev pub miss_line : List ℕ → Bool → List ℕ
miss_line front missed = cond missed (line_of front (codes " misses a tick")) []

-- ---- signals

-- the standard's name of a signal
abbrev pub signal_words : Signal → List ℕ
signal_words signal.Reset = codes " BUS_RESET"
signal_words signal.Idle = codes " IDLE"
signal_words signal.Parent = codes " TX_PARENT_NOTIFY"
signal_words signal.Child = codes " TX_CHILD_NOTIFY"
signal_words signal.Grant = codes " TX_GRANT"
signal_words (signal.Packet quad) = codes " packet " ++ hex 8 quad
signal_words signal.Done = codes " TX_IDENT_DONE"

-- a signal that was sent just now
abbrev pub sent_line : List ℕ → PortNumber → Travelling → List ℕ
sent_line front port t =
    cond (t.age == 0)
    (line_of front (numbered (codes " port ") port ++ (codes " sends" ++ signal_words t.signal))) []

-- each of these signals that was, on one port
abbrev pub sent_lines : List ℕ → PortNumber → List Travelling → List ℕ
sent_lines front port [] = []
sent_lines front port (t ∷ ts) = sent_line front port t ++ sent_lines front port ts

-- the same on the ports from number k on; of what is under way on each wire the first so many
-- signals were there before
abbrev pub all_sent_lines : List ℕ → CableWorld → NodeNumber → List ℕ → PortNumber → List PortView → List ℕ
all_sent_lines front w node there k [] = []
all_sent_lines front w node there k (p ∷ ports) =
    sent_lines front k (drop (slice_index_or there k 0) (wire_of w (record { node = node; port = k })).signals)
    ++ all_sent_lines front w node there (k + 1) ports

-- ---- a node

-- what a node showed before, how many signals were under way on each of its wires, and whether what
-- comes since is a turn that its clock misses
pub record Seen : Type 0 where
  pub view : View
  pub there : List ℕ
  pub missed : Bool

-- What changed at a node, which showed this before and now has this view, in lines that begin so: what
-- state it entered, which roles its ports took, its coin, its ID, and what it sent.
abbrev pub changed_lines : List ℕ → CableWorld → NodeNumber → Seen → View → List ℕ
changed_lines front w node seen v =
    state_line front seen.view v
    ++ (timeout_line front seen.view v
    ++ (parent_line front seen.view v
    ++ (child_lines front seen.view.ports 0 v.ports
    ++ (coin_line front seen.view v
    ++ (id_line front seen.view v
    ++ all_sent_lines front w node seen.there 0 v.ports)))))

-- all of the node: before that its clock missed the turn, if it did
abbrev pub lines_at : List ℕ → CableWorld → NodeNumber → Seen → View → List ℕ
lines_at front w node seen v = miss_line front seen.missed ++ changed_lines front w node seen v

-- the same in lines that begin with the turn and the name of the node
abbrev pub node_lines : Names → CableWorld → NodeNumber → Seen → View → List ℕ
node_lines names w node seen v = lines_at (head names w.turns node) w node seen v
