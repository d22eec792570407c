-- Grants, packets and Done: what may come to a port, and what comes of it.
use Rattle.std.specs.Prelude.{◌≡◌, ℕ, ◌≤◌, Bool, true, false, not, ◌&&◌, ◌||◌, List, [], ◌∷◌}
use Rattle.port_state.specs.declared.signal.Signal.{Signal}
use Rattle.port_state.specs.declared.signal.Signal.TheVariants as signal
use Rattle.port_state.specs.declared.states.NodeState.{NodeState}
use Rattle.port_state.specs.Ports.{is_port}
use Rattle.port_state.specs.Heard.{with_packet}
use Rattle.cable_world.specs.declared.wire.Travelling.{Travelling}
use Rattle.outcomes.specs.NodeMarks.{is_ready, is_asked, is_named}

-- a signal that is no level
abbrev pub is_message : Signal → Bool
is_message signal.Grant = true
is_message (signal.Packet quad) = true
is_message signal.Done = true
is_message s = false

-- no message is among these
abbrev pub silent : List Signal → Bool
silent [] = true
silent (s ∷ ss) = not (is_message s) && silent ss

abbrev pub quads_in : List Signal → List ℕ
quads_in [] = []
quads_in (signal.Packet quad ∷ ss) = quad ∷ quads_in ss
quads_in (s ∷ ss) = quads_in ss

abbrev pub is_grant : Signal → Bool
is_grant signal.Grant = true
is_grant s = false

abbrev pub is_done : Signal → Bool
is_done signal.Done = true
is_done s = false

abbrev pub has_grant : List Signal → Bool
has_grant [] = false
has_grant (s ∷ ss) = is_grant s || has_grant ss

abbrev pub has_done : List Signal → Bool
has_done [] = false
has_done (s ∷ ss) = is_done s || has_done ss

-- a list once these packets were heard, each kept while there is room
abbrev pub kept : List ℕ → List ℕ → List ℕ
kept list [] = list
kept list (quad ∷ quads) = kept (with_packet quad list) quads

-- each message is at least so old
abbrev pub MessagesSince : ℕ → List Travelling → Type 0
MessagesSince least [] = Unit {0}
MessagesSince least (t ∷ ts) = (is_message t.signal ≡ true → least ≤ t.age) × MessagesSince least ts

-- ---- what may come to a port

-- no message; packets; packets and then one Grant; packets and then one Done
pub data Mode : Type 0 where
  shut : Mode
  packets : Mode
  grant : Mode
  done : Mode

abbrev pub allows : Mode → Signal → Bool
allows shut signal.Grant = false
allows shut (signal.Packet quad) = false
allows shut signal.Done = false
allows shut s = true
allows packets signal.Grant = false
allows packets signal.Done = false
allows packets s = true
allows grant signal.Done = false
allows grant s = true
allows done signal.Grant = false
allows done s = true

abbrev pub next : Mode → Signal → Mode
next shut s = shut
next packets s = packets
next grant signal.Grant = shut
next grant s = grant
next done signal.Done = shut
next done s = done

abbrev pub fits : Mode → List Signal → Bool
fits m [] = true
fits m (s ∷ ss) = allows m s && fits (next m s) ss

-- the parent port of a node, by whether the node is in A0, and is granted
abbrev pub parent_mode : Bool → Bool → Mode
parent_mode true granted = packets
parent_mode false true = shut
parent_mode false false = grant

-- another port, by whether its child was asked, and is named
abbrev pub child_mode : Bool → Bool → Mode
child_mode true false = done
child_mode asked named = shut

abbrev pub mode_of : Bool → Mode → Mode → Mode
mode_of true parent child = parent
mode_of false parent child = child

abbrev pub mode : NodeState → ℕ → Mode
mode x k =
    mode_of (is_port x.view.parent k) (parent_mode (is_ready x.view.phase) x.view.granted)
    (child_mode (is_asked x k) (is_named x k))
