use Rattle.world_agenda.proofs.Ahead.{none-still, still-fewer, still-for}
use Rattle.world_agenda.proofs.agenda.AgendaWorldTellsStillTurns.still_turns.Goals as goal

-- a spent world knows nothing
pub returns-then-self-clause-still : goal.returns-then-self-clause-still
returns-then-self-clause-still g c = none-still _

pub returns-clause-still : goal.returns-clause-still
returns-clause-still g c =
    let self = c.args.self.now in
    still-fewer c.ticking.result c.rest.result _ c.ticking.ensures.most
    (still-for (λ n. g.M.PortMachine.record_of n.machine) (λ n. n.clock) (λ n. n.idle) (λ n. n.rests) self.turns c.rest.result self.nodes.items self.delay self.longest self.cabling
    self.wires.items self.changed.items c.rest.ensures.silent (λ some. self.behind c.if-self.false) c.rest.ensures.idle)
