use Rattle.port_state.proofs.Sound.{sound-tick, sound-on_signal, sound-enter, sound-disturb, sound-plugged, sound-pulled}
use Rattle.port_state.proofs.step_laws.steps_are_sound.Goals as goal

pub returns-clause-tick : goal.returns-clause-tick
returns-clause-tick c = sound-tick

pub returns-clause-signal : goal.returns-clause-signal
returns-clause-signal c = sound-on_signal

pub returns-clause-enter : goal.returns-clause-enter
returns-clause-enter c = sound-enter

pub returns-clause-disturb : goal.returns-clause-disturb
returns-clause-disturb c = sound-disturb

pub returns-clause-plugged : goal.returns-clause-plugged
returns-clause-plugged c = sound-plugged

pub returns-clause-pulled : goal.returns-clause-pulled
returns-clause-pulled c = sound-pulled
