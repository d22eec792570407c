-- One step of a node.
use Rattle.std.specs.Prelude.{List, []}
use Rattle.port_state.specs.declared.states.NodeState.{NodeState}
use Rattle.port_state.specs.Sends.{PortSignal}

-- the record after the step, and what was sent: port and signal, the first first
pub record Step : Type 0 where
  pub state : NodeState
  pub sends : List PortSignal

-- nothing is sent
abbrev pub silent_step : NodeState → Step
silent_step x = record { state = x; sends = [] }
