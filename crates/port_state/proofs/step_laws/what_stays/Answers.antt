use Rattle.port_state.proofs.Stays.{tick-keeps, signal-keeps, enter-keeps, plugged-keeps, pulled-keeps, config-keeps}
use Rattle.port_state.proofs.step_laws.what_stays.Goals as goal

pub returns-clause-tick : goal.returns-clause-tick
returns-clause-tick c = tick-keeps

pub returns-clause-signal : goal.returns-clause-signal
returns-clause-signal c = signal-keeps

pub returns-clause-enter : goal.returns-clause-enter
returns-clause-enter c = enter-keeps

pub returns-clause-plugged : goal.returns-clause-plugged
returns-clause-plugged c = plugged-keeps

pub returns-clause-pulled : goal.returns-clause-pulled
returns-clause-pulled c = pulled-keeps

pub returns-clause-config : goal.returns-clause-config
returns-clause-config c = config-keeps
