use Rattle.outcomes.proofs.Common.{comes-lawful}
use Rattle.outcomes.proofs.identify.StaysIdentifying.{comes-identifying}
use Rattle.outcomes.proofs.settled.Components.{small-named, small-forced}
use Rattle.outcomes.proofs.settled.ForcedOutcome.{forced-outcome, named-alone, packet-gaps, config-outcome, config-gaps}
use Rattle.outcomes.proofs.laws.forced_roots_settle.Goals as goal

pub returns-clause-forced : goal.returns-clause-forced
returns-clause-forced c = λ holds w k node set root r f quiet.
    forced-outcome holds w r node set root f (small-forced c.components_exist.ensures w node set root f) k quiet

pub returns-clause-names : goal.returns-clause-names
returns-clause-names c = λ w set old root id t r. named-alone w set old root id t (comes-identifying w r)

pub returns-clause-config : goal.returns-clause-config
returns-clause-config c = λ holds w v k from id gap set root r is none n can no_loop.
    config-outcome holds w v r from id gap set root n is none can no_loop (small-named c.components_exist.ensures w (comes-lawful w r) from set root id n.component n.named) k

pub returns-clause-gaps : goal.returns-clause-gaps
returns-clause-gaps c = λ holds w v k from id gap set root j x y r is none n. config-gaps holds w v r from id gap set root n is none k j x y

pub returns-clause-packets : goal.returns-clause-packets
returns-clause-packets c = λ holds w v k from id force gap set j x y r is none sent. packet-gaps holds w v r from id force gap set sent is none k j x y
