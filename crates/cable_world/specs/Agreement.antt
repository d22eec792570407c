-- What the two ends of a cable know of each other.
use Rattle.std.specs.Prelude.{◌≡◌, Bool, true, false, List, [], ◌∷◌, Option, None, Some, slice_get, if◌then◌else◌}
use Rattle.port_state.specs.declared.signal.Signal.{Signal}
use Rattle.port_state.specs.declared.signal.Signal.TheVariants as signal
use Rattle.port_state.specs.declared.signal.Level.{Level}
use Rattle.port_state.specs.declared.signal.Level.TheVariants as level
use Rattle.port_state.specs.declared.signal.Phase.{Phase}
use Rattle.port_state.specs.declared.signal.Phase.TheVariants.{ResetStart, ResetWait, TreeStart, ChildShake, ParentShake, Contend, SelfIdent, Ready}
use Rattle.port_state.specs.declared.ports.PortView.{PortView}
use Rattle.port_state.specs.declared.states.NodeState.{NodeState}
use Rattle.port_state.specs.Ports.{PortNumber, port_is}
use Rattle.cable_world.specs.World.{CableWorld, AtCables, wire_of}
use Rattle.cable_world.specs.Signals.{signals_of, has_reset}

-- ---- the level last sent

-- the level that a node in this phase last sent on a connected port, given whether it is a child
-- port; a port that isn't is the parent port in the phases from ChildShake on
abbrev pub level_sent : Phase → Bool → Level
level_sent ResetStart child = level.Reset
level_sent ResetWait child = level.Idle
level_sent TreeStart child = level.Idle
level_sent ChildShake child = if child then level.Child else level.Parent
level_sent ParentShake child = if child then level.Child else level.Parent
level_sent Contend child = if child then level.Child else level.Idle
level_sent SelfIdent child = if child then level.Child else level.Idle
level_sent Ready child = if child then level.Child else level.Idle

-- the port of this number leads to a child
abbrev pub leads_down : List PortView → PortNumber → Bool
leads_down ports k = port_is (λ p. p.child) ports k

-- the level that a node last sent on the port of this number
abbrev pub level_sent_at : NodeState → PortNumber → Level
level_sent_at x k = level_sent x.view.phase (leads_down x.view.ports k)

-- ---- the level that a port shows

abbrev pub shown_or_idle : Option PortView → Level
shown_or_idle None = level.Idle
shown_or_idle (Some p) = p.shown

abbrev pub level_shown : NodeState → PortNumber → Level
level_shown x k = shown_or_idle (slice_get x.view.ports k)

-- ---- the level after signals

-- the level that a port shows after a signal, if it showed this one before
abbrev pub level_after_one : Signal → Level → Level
level_after_one signal.Reset shown = level.Reset
level_after_one signal.Idle shown = level.Idle
level_after_one signal.Parent shown = level.Parent
level_after_one signal.Child shown = level.Child
level_after_one signal.Grant shown = shown
level_after_one (signal.Packet quad) shown = shown
level_after_one signal.Done shown = shown

-- after these signals, the first first: the last level among them, or the one before if none is a
-- level
abbrev pub level_after : Level → List Signal → Level
level_after shown [] = shown
level_after shown (s ∷ ss) = level_after (level_after_one s shown) ss

-- ---- the two ends of a cable

-- What a node last sent over a cable is under way to the other end, or shown there.
abbrev pub LevelsAgree : CableWorld → Type 0
LevelsAgree w = AtCables w (λ a x b y.
    level_after (level_shown y b.port) (signals_of (wire_of w a).signals) ≡ level_sent_at x a.port)

-- A child port leads to a node whose parent port is at the other end of the cable, unless a Reset
-- is under way from there.
abbrev pub RolesAgree : CableWorld → Type 0
RolesAgree w = AtCables w (λ a x b y.
    leads_down x.view.ports a.port ≡ true → has_reset (signals_of (wire_of w b).signals) ≡ false →
    y.view.parent ≡ Some b.port)

pub record Agrees (w : CableWorld) : Type 0 where
  pub levels : LevelsAgree w
  pub roles : RolesAgree w
