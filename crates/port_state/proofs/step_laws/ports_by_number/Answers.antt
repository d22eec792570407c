use Rattle.port_state.proofs.Pointwise.{map-port, changed-port}
use Rattle.port_state.proofs.step_laws.ports_by_number.Goals as goal

pub returns-clause-all : goal.returns-clause-all
returns-clause-all c = map-port

pub returns-clause-one : goal.returns-clause-one
returns-clause-one c = changed-port
