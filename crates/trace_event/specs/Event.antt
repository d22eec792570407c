-- An event as a line of a trace.
use Rattle.std.specs.Prelude.{ℕ, ◌<◌, Option, Some, None, List, [], ◌++◌, codes, decimal}
use Rattle.topology_stack.specs.Hex.{hex}
use Rattle.port_state.specs.declared.signal.Signal.{Signal}
use Rattle.port_state.specs.declared.signal.Signal.TheVariants as signal
use Rattle.port_state.specs.declared.signal.Phase.{Phase}
use Rattle.port_state.specs.declared.signal.Phase.TheVariants as phase
use Rattle.trace_event.specs.declared.event.Part.{Part}
use Rattle.trace_event.specs.declared.event.What.{What}
use Rattle.trace_event.specs.declared.event.What.TheVariants.{Plug, Pull, Reset, Hold, Config, Enters, Timeout, ToParent, ToChild, Coin, PhyId, Sends, Misses}
use Rattle.trace_event.specs.declared.event.Event.{Event}
use Rattle.trace_event.specs.Stands.{Stands, bytes_of, IsNameIn}

-- ---- words

-- a word and a number
abbrev pub numbered : List ℕ → ℕ → List ℕ
numbered word n = word ++ decimal n

-- the standard's name of a state; Self-ID is entered at S0
abbrev pub state_words : Phase → List ℕ
state_words phase.ResetStart = codes " enters R0"
state_words phase.ResetWait = codes " enters R1"
state_words phase.TreeStart = codes " enters T0"
state_words phase.ChildShake = codes " enters T1"
state_words phase.ParentShake = codes " enters T2"
state_words phase.Contend = codes " enters T3"
state_words phase.SelfIdent = codes " enters S0"
state_words phase.Ready = codes " enters A0"

-- the standard's name of a signal
abbrev pub signal_words : Signal → List ℕ
signal_words signal.Reset = codes " BUS_RESET"
signal_words signal.Idle = codes " IDLE"
signal_words signal.Parent = codes " TX_PARENT_NOTIFY"
signal_words signal.Child = codes " TX_CHILD_NOTIFY"
signal_words signal.Grant = codes " TX_GRANT"
signal_words (signal.Packet quad) = codes " packet " ++ hex 8 quad
signal_words signal.Done = codes " TX_IDENT_DONE"

-- ` N`, or ` -` for none
abbrev pub choice : Option ℕ → List ℕ
choice None = codes " -"
choice (Some n) = numbered (codes " ") n

-- ` 0` or ` 1`, where the coin is shown
abbrev pub coin_digit : Option ℕ → List ℕ
coin_digit None = []
coin_digit (Some coin) = numbered (codes " ") coin

-- ---- lines

-- ` NAME`
abbrev pub name_word : List ℕ → Part → List ℕ
name_word text name = codes " " ++ bytes_of text name

-- ` NAME PORT`
abbrev pub end_words : List ℕ → Part → ℕ → List ℕ
end_words text name port = name_word text name ++ numbered (codes " ") port

-- ` NAME port PORT`
abbrev pub port_words : List ℕ → Part → ℕ → List ℕ
port_words text node port = name_word text node ++ numbered (codes " port ") port

-- what stands behind the turn
abbrev pub what_words : List ℕ → What → List ℕ
what_words text (Plug a a_port b b_port) = codes " plug" ++ (end_words text a a_port ++ end_words text b b_port)
what_words text (Pull name port) = codes " pull" ++ end_words text name port
what_words text (Reset name) = codes " reset" ++ name_word text name
what_words text (Hold name port turns) = codes " hold" ++ (end_words text name port ++ numbered (codes " ") turns)
what_words text (Config name root_id gap) = codes " config" ++ (name_word text name ++ (choice root_id ++ choice gap))
what_words text (Enters node phase) = name_word text node ++ state_words phase
what_words text (Timeout node) = name_word text node ++ codes " configuration timeout"
what_words text (ToParent node port) = port_words text node port ++ codes " to its parent"
what_words text (ToChild node port) = port_words text node port ++ codes " to a child"
what_words text (Coin node coin wait) =
    name_word text node ++ (codes " coin" ++ (coin_digit coin ++ numbered (codes " wait ") wait))
what_words text (PhyId node id) = name_word text node ++ numbered (codes " phy_ID ") id
what_words text (Sends node port signal) = port_words text node port ++ (codes " sends" ++ signal_words signal)
what_words text (Misses node) = name_word text node ++ codes " misses a tick"

-- `turn T`, what happens, and a line feed
abbrev pub event_line : List ℕ → Event → List ℕ
event_line text e = numbered (codes "turn ") e.turn ++ (what_words text e.what ++ codes "\n")

-- ---- names

-- what stands for names are names
abbrev pub HasNames : List ℕ → What → Type 0
HasNames text (Plug a a_port b b_port) = IsNameIn text a × IsNameIn text b
HasNames text (Pull name port) = IsNameIn text name
HasNames text (Reset name) = IsNameIn text name
HasNames text (Hold name port turns) = IsNameIn text name
HasNames text (Config name root_id gap) = IsNameIn text name
HasNames text (Enters node phase) = IsNameIn text node
HasNames text (Timeout node) = IsNameIn text node
HasNames text (ToParent node port) = IsNameIn text node
HasNames text (ToChild node port) = IsNameIn text node
HasNames text (Coin node coin wait) = IsNameIn text node
HasNames text (PhyId node id) = IsNameIn text node
HasNames text (Sends node port signal) = IsNameIn text node
HasNames text (Misses node) = IsNameIn text node

-- ---- numbers

-- a number, if there is one, has 32 bits
abbrev pub IsShort : Option ℕ → Type 0
IsShort None = Unit {0}
IsShort (Some n) = n < 4294967296

-- each number has; of a quadlet the lowest 32 bits are shown
abbrev pub HasNumbers : What → Type 0
HasNumbers (Plug a a_port b b_port) = (a_port < 4294967296) × (b_port < 4294967296)
HasNumbers (Pull name port) = port < 4294967296
HasNumbers (Reset name) = Unit {0}
HasNumbers (Hold name port turns) = (port < 4294967296) × (turns < 4294967296)
HasNumbers (Config name root_id gap) = IsShort root_id × IsShort gap
HasNumbers (Enters node phase) = Unit {0}
HasNumbers (Timeout node) = Unit {0}
HasNumbers (ToParent node port) = port < 4294967296
HasNumbers (ToChild node port) = port < 4294967296
HasNumbers (Coin node coin wait) = IsShort coin × (wait < 4294967296)
HasNumbers (PhyId node id) = id < 4294967296
HasNumbers (Sends node port signal) = port < 4294967296
HasNumbers (Misses node) = Unit {0}

-- ---- what stands at a place

-- at this place, behind the turn, a line goes on with what happens, and ends before `next`
pub record IsWhatAt (text : List ℕ) (at : ℕ) (what : What) (next : ℕ) : Type 0 where
  pub line : Stands text at (what_words text what ++ codes "\n") next
  pub names : HasNames text what

-- the line of this event stands at this place, and the next place is the one behind it
pub record IsEventAt (text : List ℕ) (at : ℕ) (event : Event) (next : ℕ) : Type 0 where
  pub line : Stands text at (event_line text event) next
  pub names : HasNames text event.what

-- the same of an event whose numbers have 32 bits
pub record IsShownAt (text : List ℕ) (at : ℕ) (event : Event) (next : ℕ) : Type 0 where
  pub is : IsEventAt text at event next
  pub turn : event.turn < 4294967296
  pub numbers : HasNumbers event.what
