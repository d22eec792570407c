use Rattle.std.proofs.Common.{refl, true}
use Rattle.outcomes.proofs.forced.Configured.{names-sends, sent-fresh, sent-alone, sent-gaps}
use Rattle.outcomes.proofs.laws.configs_choose_roots.Goals as goal

pub returns-clause-fresh : goal.returns-clause-fresh
returns-clause-fresh c = λ w v from id gap set root n. sent-fresh w v from id true gap set (names-sends w v from id gap set root n)

pub returns-clause-waits : goal.returns-clause-waits
returns-clause-waits c = λ w v from id gap set root n. sent-alone w v from id true gap set (names-sends w v from id gap set root n) root refl n.named

pub returns-clause-gaps : goal.returns-clause-gaps
returns-clause-gaps c = λ w v from id gap set root k x y n. sent-gaps w v from id true gap set (names-sends w v from id gap set root n) k x y
