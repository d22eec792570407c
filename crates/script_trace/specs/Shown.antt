-- What a trace shows of a turn on a port is what the node's step sent there.
use Rattle.std.specs.Prelude.{◌≡◌, ℕ, ◌<◌, List, [], ◌∷◌, ◌++◌, codes, length, Some, slice_get, slice_index_or}
use Rattle.cabling.specs.declared.cable.End.{End}
use Rattle.port_state.specs.declared.signal.Signal.{Signal}
use Rattle.port_state.specs.Ports.{PortNumber}
use Rattle.port_state.specs.Sends.{sent_on}
use Rattle.port_state.specs.Machine.{PortNode}
use Rattle.cable_world.specs.World.{CableWorld, wire_of}
use Rattle.cable_world.specs.Turn.{turn, turn_at}
use Rattle.script_text.specs.ReportText.{Names, numbered}
use Rattle.script_trace.specs.Event.{head, line_of, signal_words, sent_lines}

-- a line that begins so for each of these signals
abbrev pub signal_lines : List ℕ → PortNumber → List Signal → List ℕ
signal_lines front port [] = []
signal_lines front port (s ∷ ss) =
    line_of front (numbered (codes " port ") port ++ (codes " sends" ++ signal_words s))
    ++ signal_lines front port ss

-- each signal that the node's step of the turn sends on the port, in order, and no other
abbrev pub TurnsShowWhatIsSent : Type 0
TurnsShowWhatIsSent =
    (names : Names) (w : CableWorld) (end : End) (x : PortNode) →
    length w.nodes ≡ length w.cabling → slice_get w.nodes end.node ≡ Some x →
    end.port < length (slice_index_or w.wires end.node []) →
    let front = head names (turn w).turns end.node in
    sent_lines front end.port (wire_of (turn w) end).signals
    ≡ signal_lines front end.port (sent_on end.port (turn_at w end.node x).sends)
