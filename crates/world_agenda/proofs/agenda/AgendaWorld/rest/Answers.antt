use Rattle.std.proofs.Common.{◌+◌, subst}
use Rattle.cable_world.specs.Still.{AreSilent}
use Rattle.world_agenda.proofs.Known.{all-idle}
use Rattle.world_agenda.proofs.agenda.AgendaWorld.rest.Goals as goal

pub returns-clause-silent : goal.returns-clause-silent
returns-clause-silent g c = λ some. subst AreSilent c.deref.ensures.value (c.live_silent.ensures c.if-not-live_silent.false)

pub returns-clause-idle : goal.returns-clause-idle
returns-clause-idle g c = λ some.
    let self = c.args.self.now in
    all-idle (λ n. n.clock + n.idle) self.agenda.soon self.agenda.next (self.turns + c.rest-rest.result) self.nodes.items (c.rest-rest.ensures.none some)
    (c.rest-rest.ensures.end some) (self.knows c.requires.sound).idles
