use Rattle.port_state.proofs.IdleTicks.{missed-idle, idle_ticks-rest, after-idle_ticks}
use Rattle.port_state.proofs.idle_laws.idle_ticks.Goals as goal

pub returns-clause-missed : goal.returns-clause-missed
returns-clause-missed c = missed-idle

pub returns-clause-rows : goal.returns-clause-rows
returns-clause-rows c = idle_ticks-rest

pub returns-clause-timers : goal.returns-clause-timers
returns-clause-timers c = after-idle_ticks
