-- Signals and ticks of self identify.
use Rattle.std.specs.Prelude.{ℕ, false, if◌then◌else◌}
use Rattle.port_state.specs.declared.signal.Signal.{Signal}
use Rattle.port_state.specs.declared.signal.Signal.TheVariants.{Grant, Packet, Done}
use Rattle.port_state.specs.declared.states.NodeState.{NodeState}
use Rattle.port_state.specs.Step.{Step, silent_step}
use Rattle.port_state.specs.Heard.{on_signal}
use Rattle.port_state.specs.SelfIdentify.{may_name, names_itself, self_ident_row}
use Rattle.port_state.specs.Tick.{does}

-- a grant, a packet or Done is heard; a level is left to others
abbrev pub ident_heard : ℕ → Signal → NodeState → Step
ident_heard port Grant x = on_signal port Grant x
ident_heard port (Packet quad) x = on_signal port (Packet quad) x
ident_heard port Done x = on_signal port Done x
ident_heard port s x = silent_step x

-- a node whose children have identified themselves does so itself, if it may
abbrev pub naming_step : NodeState → Step
naming_step x = if may_name x then names_itself x else silent_step x

-- what a tick does in S0 to S2 and S4; none of these rows looks at a coin
abbrev pub ident_step : NodeState → Step
ident_step x = does false (self_ident_row x) x
