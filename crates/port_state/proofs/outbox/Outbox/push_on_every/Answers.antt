use Rattle.std.proofs.Common.{◌≡◌, ◌++◌, arith, ◌∙◌, ap, true, length-append}
use Rattle.port_state.specs.PortSet.{on_ports}
use Rattle.port_state.specs.Sends.{on_every}
use Rattle.port_state.proofs.OnPorts.{every-sent}
use Rattle.port_state.proofs.Outgoing.{few-sends_from}
use Rattle.port_state.proofs.outbox.Outbox.push_on_every.Goals as goal

pub push_on-requires : goal.push_on-requires
push_on-requires c =
    let same : on_ports c.connected.result c.args.signal ≡ on_every c.args.signal c.args.ports.now = every-sent c.args.ports.now c.connected.result c.args.signal c.connected.ensures.few c.connected.ensures.ports in
    rw same (omega (arith, few-sends_from 0 (λ k. true) (λ p. c.args.signal) c.args.ports.now, c.requires))

pub returns-clause-sends : goal.returns-clause-sends
returns-clause-sends c = c.push_on.ensures ∙ ap (λ ys. c.args.self.now ++ ys) (every-sent c.args.ports.now c.connected.result c.args.signal c.connected.ensures.few c.connected.ensures.ports)

pub returns-clause-fits : goal.returns-clause-fits
returns-clause-fits c =
    let same : c.push_on.new.self ≡ c.args.self.now ++ on_every c.args.signal c.args.ports.now = c.push_on.ensures ∙ ap (λ ys. c.args.self.now ++ ys) (every-sent c.args.ports.now c.connected.result c.args.signal c.connected.ensures.few c.connected.ensures.ports) in
    rw same (omega (arith, length-append c.args.self.now (on_every c.args.signal c.args.ports.now), few-sends_from 0 (λ k. true) (λ p. c.args.signal) c.args.ports.now))
