use Rattle.std.proofs.Common.{◌≡◌, ◌+◌, ◌-◌, ◌<◌, ◌∙◌, ap, sym, subst, arith}
use Rattle.port_state.specs.Clock.{TicksFor, misses, clock_on}
use Rattle.port_state.proofs.Lemmas.{after-clock}
use Rattle.world_agenda.proofs.node.AgendaNode.ticks_at.Goals as goal

pub returns-clause-ticks : goal.returns-clause-ticks
returns-clause-ticks g c =
    let n = g.M.PortMachine.record_of c.args.self.now.machine in
    let past = c.args.turns - c.args.self.now.clock in
    subst (TicksFor c.ticks_on.result) (ap (λ k. clock_on k n.clock) c.saturating_sub.ensures ∙ sym (after-clock past n)) c.ticks_on.ensures.ticks

pub returns-clause-none : goal.returns-clause-none
returns-clause-none g c none =
    let n = g.M.PortMachine.record_of c.args.self.now.machine in
    let past = c.args.turns - c.args.self.now.clock in
    let same : past ≡ c.saturating_sub.result + c.ticks_on.result = omega (arith, none, c.saturating_sub.ensures) in
    ap misses (after-clock past n) ∙ ap (λ k. misses (clock_on k n.clock)) same ∙ c.ticks_on.ensures.greatest (omega (arith, none))
