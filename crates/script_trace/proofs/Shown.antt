-- The signals that are shown are those that were sent.
use Rattle.std.proofs.Common.{◌≡◌, ◌++◌, ◌+◌, ◌==◌, ℕ, Bool, true, false, List, [], ◌∷◌, map, cond, refl, ◌∙◌, ap}
use Rattle.std.proofs.lemmas.Bool.Decides.{nat_tests}
use Rattle.std.proofs.Common.{arith}
use Rattle.port_state.specs.declared.signal.Signal.{Signal}
use Rattle.port_state.specs.Sends.{sent_on}
use Rattle.cable_world.specs.declared.wire.Travelling.{Travelling}
use Rattle.cable_world.specs.Wire.{Wire, new_signal, age_signal, age_wire, gives, stays, add_signals}
use Rattle.cable_world.specs.World.{wire_of}
use Rattle.cable_world.specs.Turn.{turn, turn_at}
use Rattle.cable_world.specs.ByNumber.{WiresTakeTurns}
use Rattle.script_trace.specs.Event.{head, sent_line, sent_lines}
use Rattle.script_trace.specs.Shown.{signal_lines, TurnsShowWhatIsSent}

-- a signal that has been under way for a turn isn't shown
pub older : (n : ℕ) → (n + 1 == 0) ≡ false
older n = grind (arith, nat_tests)

pub new-lines :
    (front : List ℕ) (port : ℕ) (ss : List Signal) →
    sent_lines front port (map new_signal ss) ≡ signal_lines front port ss
new-lines front port [] = refl
new-lines front port (s ∷ ss) =
    ap (λ (l : List ℕ). sent_line front port (new_signal s) ++ l) (new-lines front port ss)

old-lines :
    (front : List ℕ) (port : ℕ) (ts : List Travelling) (ss : List Signal) →
    sent_lines front port (map age_signal ts ++ map new_signal ss)
    ≡ signal_lines front port ss
old-lines front port [] ss = new-lines front port ss
old-lines front port (t ∷ ts) ss = rw (older t.age) (old-lines front port ts ss)

stayed-lines :
    (front : List ℕ) (port d : ℕ) (w : Wire) (ss : List Signal) →
    sent_lines front port (add_signals ss (stays d w)).signals
    ≡ signal_lines front port ss
stayed-lines front port d w ss = go (gives d (age_wire w))
  where
    go : (given : Bool) →
        sent_lines front port (cond given [] (map age_signal w.signals) ++ map new_signal ss)
        ≡ signal_lines front port ss
    go true = new-lines front port ss
    go false = old-lines front port w.signals ss

pub shown-sent : WiresTakeTurns → TurnsShowWhatIsSent
shown-sent wires names w end x count at there =
    let front = head names (turn w).turns end.node in
    ap (λ (v : Wire). sent_lines front end.port v.signals) (wires w end x count at there)
    ∙ stayed-lines front end.port w.delay (wire_of w end)
    (sent_on end.port (turn_at w end.node x).sends)
