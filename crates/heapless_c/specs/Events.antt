-- The records of the events of a trace.
-- Statuses: 0 ok, 1 refused.
use Rattle.std.specs.Prelude.{◌≡◌, ℕ, Option, Some, None, List}
use Rattle.port_state.specs.declared.signal.Signal.{Signal}
use Rattle.port_state.specs.declared.signal.Signal.TheVariants as signal
use Rattle.port_state.specs.declared.signal.Phase.{Phase}
use Rattle.port_state.specs.declared.signal.Phase.TheVariants as phase
use Rattle.trace_event.specs.declared.event.Part.{Part}
use Rattle.trace_event.specs.declared.event.What.{What}
use Rattle.trace_event.specs.declared.event.What.TheVariants.{Plug, Pull, Reset, Hold, Config, Enters, Timeout, ToParent, ToChild, Coin, PhyId, Sends, Misses}
use Rattle.trace_event.specs.declared.event.Event.{Event}
use Rattle.trace_event.specs.Event.{IsEventAt, IsShownAt}
use Rattle.heapless_c.specs.declared.records.EventRecord.{EventRecord}

-- ---- numbers

-- a number, or what stands for none
abbrev pub number_or_none : Option ℕ → ℕ
number_or_none None = 4294967295
number_or_none (Some n) = n

-- the number of a state in the standard's order
abbrev pub state_number : Phase → ℕ
state_number phase.ResetStart = 0
state_number phase.ResetWait = 1
state_number phase.TreeStart = 2
state_number phase.ChildShake = 3
state_number phase.ParentShake = 4
state_number phase.Contend = 5
state_number phase.SelfIdent = 6
state_number phase.Ready = 7

abbrev pub signal_number : Signal → ℕ
signal_number signal.Reset = 0
signal_number signal.Idle = 1
signal_number signal.Parent = 2
signal_number signal.Child = 3
signal_number signal.Grant = 4
signal_number (signal.Packet quad) = 5
signal_number signal.Done = 6

-- the quadlet of a packet
abbrev pub quad_of_signal : Signal → ℕ
quad_of_signal signal.Reset = 0
quad_of_signal signal.Idle = 0
quad_of_signal signal.Parent = 0
quad_of_signal signal.Child = 0
quad_of_signal signal.Grant = 0
quad_of_signal (signal.Packet quad) = quad
quad_of_signal signal.Done = 0

-- ---- records

-- the record of a kind in this turn, at a node and on a port of it, with what the kind says
abbrev pub at_node : ℕ → ℕ → Part → ℕ → ℕ → ℕ → EventRecord
at_node kind turn name port value second = record {
  name = name.start;
  name_length = name.len;
  other = 0;
  other_length = 0;
  turn = turn;
  port = port;
  other_port = 0;
  value = value;
  second = second;
  kind = kind;
}

-- the record of what happens in a turn
abbrev pub what_record : ℕ → What → EventRecord
what_record turn (Plug a a_port b b_port) =
    record (at_node 1 turn a a_port 0 0) { other = b.start; other_length = b.len; other_port = b_port }
what_record turn (Pull name port) = at_node 2 turn name port 0 0
what_record turn (Reset name) = at_node 3 turn name 0 0 0
what_record turn (Hold name port turns) = at_node 4 turn name port turns 0
what_record turn (Config name root_id gap) =
    at_node 5 turn name 0 (number_or_none root_id) (number_or_none gap)
what_record turn (Enters node phase) = at_node 6 turn node 0 (state_number phase) 0
what_record turn (Timeout node) = at_node 7 turn node 0 0 0
what_record turn (ToParent node port) = at_node 8 turn node port 0 0
what_record turn (ToChild node port) = at_node 9 turn node port 0 0
what_record turn (Coin node coin wait) = at_node 10 turn node 0 wait (number_or_none coin)
what_record turn (PhyId node id) = at_node 11 turn node 0 id 0
what_record turn (Sends node port signal) =
    at_node 12 turn node port (signal_number signal) (quad_of_signal signal)
what_record turn (Misses node) = at_node 13 turn node 0 0 0

abbrev pub event_record : Event → EventRecord
event_record e = what_record e.turn e.what

-- ---- what is told

-- the event whose line stands at this place of a text is told, and the place behind it; or nothing is, and then no line
-- stands there of an event whose numbers have 32 bits
pub data TellsEvent (text : List ℕ) (at : ℕ) (before after : EventRecord) (next_before next status : ℕ)
    : Type 0 where
  told : (e : Event) → IsEventAt text at e next → after ≡ event_record e → status ≡ 0 →
      TellsEvent text at before after next_before next status
  none : ((e : Event) (end : ℕ) → IsShownAt text at e end → ⊥) → after ≡ before →
      next ≡ next_before → status ≡ 1 →
      TellsEvent text at before after next_before next status
