use Rattle.settle.proofs.LeftAlone.{left-reached, settled-after}
use Rattle.settle.proofs.QuietCount.{nodes-tell}
use Rattle.settle.proofs.laws.quiet_turns_settle.Goals as goal

pub returns-clause-plain : goal.returns-clause-plain
returns-clause-plain c = settled-after

pub returns-clause-reached : goal.returns-clause-reached
returns-clause-reached c = λ w h. left-reached h.before w h.reached h.is

pub returns-clause-in_range : goal.returns-clause-in_range
returns-clause-in_range c = nodes-tell
