-- The rows of bus reset: R0 (Reset start) and R1 (Reset wait).
use Rattle.std.specs.Prelude.{Bool, true, false, nat_le, if◌then◌else◌}
use Rattle.port_state.specs.declared.signal.Level.{Level}
use Rattle.port_state.specs.declared.signal.Level.TheVariants as level
use Rattle.port_state.specs.declared.signal.Phase.TheVariants.{ResetWait, TreeStart}
use Rattle.port_state.specs.declared.signal.Signal.TheVariants as signal
use Rattle.port_state.specs.declared.states.NodeState.{NodeState}
use Rattle.port_state.specs.Ports.{every}
use Rattle.port_state.specs.Sends.{on_every}
use Rattle.port_state.specs.Step.{Step, silent_step}
use Rattle.port_state.specs.Row as row
use Rattle.port_state.specs.Row.{Row}

-- R0 to R1: Reset was sent for the hold; now Idle goes out on every port
abbrev pub reset_start_row : NodeState → Row
reset_start_row x = if nat_le x.timing.hold x.view.timer then row.ends_reset else row.none

abbrev pub ends_reset : NodeState → Step
ends_reset x = record {
  state = record x { view = record x.view { phase = ResetWait; timer = 0 } };
  sends = on_every signal.Idle x.view.ports;
}

-- the neighbour is past its reset
abbrev pub is_calm : Level → Bool
is_calm level.Idle = true
is_calm level.Parent = true
is_calm l = false

-- R1 to T0: every port shows Idle or Parent
abbrev pub reset_wait_row : NodeState → Row
reset_wait_row x = if every (λ p. is_calm p.shown) x.view.ports then row.begins_tree else row.none

abbrev pub begins_tree : NodeState → Step
begins_tree x = silent_step (record x { view = record x.view { phase = TreeStart; timer = 0 } })
