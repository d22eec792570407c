use Rattle.port_state.proofs.Cables.{tick-cables, signal-cables, enter-cables, plugged-cables, pulled-cables}
use Rattle.port_state.proofs.step_laws.cables_by_number.Goals as goal

pub returns-clause-tick : goal.returns-clause-tick
returns-clause-tick c = tick-cables

pub returns-clause-signal : goal.returns-clause-signal
returns-clause-signal c = signal-cables

pub returns-clause-enter : goal.returns-clause-enter
returns-clause-enter c = enter-cables

pub returns-clause-plugged : goal.returns-clause-plugged
returns-clause-plugged c = plugged-cables

pub returns-clause-pulled : goal.returns-clause-pulled
returns-clause-pulled c = pulled-cables
