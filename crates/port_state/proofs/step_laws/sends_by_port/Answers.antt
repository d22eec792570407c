use Rattle.port_state.proofs.Pointwise.{on_every-port, on_others-port, notices-port, packets-port}
use Rattle.port_state.proofs.step_laws.sends_by_port.Goals as goal

pub returns-clause-every : goal.returns-clause-every
returns-clause-every c = on_every-port

pub returns-clause-others : goal.returns-clause-others
returns-clause-others c = on_others-port

pub returns-clause-notices : goal.returns-clause-notices
returns-clause-notices c = notices-port

pub returns-clause-packets : goal.returns-clause-packets
returns-clause-packets c = packets-port
