use Rattle.std.proofs.Common.{◌-◌, ◌∙◌, ap, sym}
use Rattle.port_state.specs.Clock.{is_even}
use Rattle.port_state.proofs.Lemmas.{after-clock, even-on}
use Rattle.world_agenda.proofs.node.AgendaNode.is_even_at.Goals as goal

pub returns : goal.returns
returns g c =
    let machine = c.args.self.now.machine in
    let n = g.M.PortMachine.record_of machine in
    let past = c.args.turns - c.args.self.now.clock in
    c.is_even.ensures ∙ sym (ap is_even (after-clock past n) ∙ even-on past n.clock (g.met.M.PortMachine.regular machine))
