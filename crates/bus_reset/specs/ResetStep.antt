-- A tick in R0 and R1.
use Rattle.port_state.specs.declared.signal.Phase.{Phase}
use Rattle.port_state.specs.declared.signal.Phase.TheVariants.{ResetStart, ResetWait}
use Rattle.port_state.specs.declared.states.NodeState.{NodeState}
use Rattle.port_state.specs.Step.{Step}
use Rattle.port_state.specs.Row as row
use Rattle.port_state.specs.Row.{Row}
use Rattle.port_state.specs.Resetting.{reset_start_row, reset_wait_row}
use Rattle.port_state.specs.Tick.{does}
use Rattle.std.specs.Prelude.{false}

-- the row that applies in a phase; none outside R0 and R1
abbrev pub reset_row : Phase → NodeState → Row
reset_row ResetStart x = reset_start_row x
reset_row ResetWait x = reset_wait_row x
reset_row phase x = row.none

-- what it does; none of these rows looks at a coin
abbrev pub reset_step : NodeState → Step
reset_step x = does false (reset_row x.view.phase x) x
