use Rattle.std.proofs.Common.{◌<◌, length, arith}
use Rattle.std.proofs.lemmas.Option.{slice_get_within}
use Rattle.outcomes.proofs.Common.{turn}
use Rattle.cable_world.proofs.Lemmas.{nodes-after}
use Rattle.outcomes.proofs.settled.Components.{small-there}
use Rattle.outcomes.proofs.numbers.HoldRests.{hold-settles}
use Rattle.outcomes.proofs.numbers.AtRest.{has-prefix, has-room}
use Rattle.outcomes.proofs.numbers.Settling.{settles-first, settles-on}
use Rattle.outcomes.proofs.laws.walks_are_numbered.Goals as goal

pub returns-clause-begins : goal.returns-clause-begins
returns-clause-begins c = λ w set core root t q comp is_core inside r walk all not-yet.
    let there : root < length w.nodes = omega (arith, slice_get_within (turn w).nodes root r.node r.at, nodes-after w q.lawful.well_formed.count) in
    settles-first w q.lawful q.acyclic q.identifies set core root t comp is_core (small-there c.components_exist.ensures w q.lawful root set there comp) inside r walk all not-yet

pub returns-clause-turn : goal.returns-clause-turn
returns-clause-turn c = λ w set core root t q s. settles-on w q.lawful q.acyclic q.identifies set core root t s

pub returns-clause-prefix : goal.returns-clause-prefix
returns-clause-prefix c = λ w set core root k t x q s n. has-prefix w q.lawful q.acyclic q.identifies set core root t s k x n.inside n.at n.granted n.unready n.named

pub returns-clause-room : goal.returns-clause-room
returns-clause-room c = λ w set core root k t x q s n. has-room w q.lawful q.acyclic q.identifies set core root t s k x n.inside n.at n.granted n.unready n.named

pub returns-clause-hold : goal.returns-clause-hold
returns-clause-hold c = λ end turns w set core root t none l s. hold-settles end turns w none l set core root t s
