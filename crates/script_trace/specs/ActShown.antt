-- What a trace shows of an act on a port is what the act sent there.
use Rattle.std.specs.Prelude.{◌≡◌, ◌⊎◌, ℕ, List, [], ◌∷◌, drop, length, None, Some, IsSomeAnd}
use Rattle.cabling.specs.declared.cable.End.{End}
use Rattle.cabling.specs.Wiring.{far}
use Rattle.port_state.specs.declared.signal.Signal.TheVariants as signal
use Rattle.cable_world.specs.declared.act.Act.{Act}
use Rattle.cable_world.specs.declared.act.Act.TheVariants.{Plug, Pull, Reset, Config}
use Rattle.cable_world.specs.World.{CableWorld, NodeNumber, wire_of}
use Rattle.world_laws.specs.ByNumber.{InActs}
use Rattle.script_text.specs.ReportText.{Names}
use Rattle.script_trace.specs.Event.{head, sent_lines}
use Rattle.script_trace.specs.Shown.{signal_lines}

-- an act begins a reset at this node
abbrev pub BeginsAt : Act → CableWorld → NodeNumber → Type 0
BeginsAt (Plug a b) w k = (k ≡ a.node) ⊎ (k ≡ b.node)
BeginsAt (Pull a) w k = (k ≡ a.node) ⊎ IsSomeAnd (far w.cabling a) (λ b. k ≡ b.node)
BeginsAt (Reset node) w k = k ≡ node
BeginsAt (Config from root_id force gap) w k = k ≡ from

-- what is shown at an end of the signals that an act between two worlds sent: those that are under
-- way now, but for the ones that were before
abbrev pub act_sent_lines : Names → CableWorld → CableWorld → End → List ℕ
act_sent_lines names w v end =
    sent_lines (head names v.turns end.node) end.port
    (drop (length (wire_of w end).signals) (wire_of v end).signals)

-- On each cable of a node at which an act begins a reset one BUS_RESET is shown. At the other nodes,
-- and where no cable is, as where one was pulled, no signal is.
pub record ShowsItsResets (names : Names) (a : Act) (w v : CableWorld) : Type 0 where
  pub resets :
      (end other : End) → BeginsAt a w end.node → far v.cabling end ≡ Some other →
      act_sent_lines names w v end
      ≡ signal_lines (head names v.turns end.node) end.port (signal.Reset ∷ [])
  pub others : (end : End) → (BeginsAt a w end.node → ⊥) → act_sent_lines names w v end ≡ []
  pub unplugged : (end : End) → far v.cabling end ≡ None → act_sent_lines names w v end ≡ []

-- of each act that isn't refused
abbrev pub ActsShowTheirResets : Type 0
ActsShowTheirResets = (names : Names) → InActs (ShowsItsResets names)
