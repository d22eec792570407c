use Rattle.std.proofs.Common.{◌≡◌, ℕ, ◌≤◌, ◌==◌, ◌&&◌, ◌++◌, not, [], List, length, arith, ◌∙◌, ap}
use Rattle.port_state.specs.declared.ports.PortView.{PortView}
use Rattle.port_state.specs.declared.signal.Signal.{Signal}
use Rattle.port_state.specs.declared.signal.Signal.TheVariants as signal
use Rattle.port_state.specs.Ports.{is_connected}
use Rattle.port_state.specs.PortSet.{has_port, on_ports}
use Rattle.port_state.specs.Sends.{PortSignal, on_others}
use Rattle.port_state.proofs.Lemmas.{few-sends_from, others-sent}
use Rattle.self_identify.proofs.hearing.take_packet.Goals as goal

-- the connected ports without this one are the others
on-others :
    (views : List PortView) (port connected others : ℕ) (s : Signal) → length views ≤ 16 →
    ((k : ℕ) → has_port connected k ≡ is_connected views k) →
    ((k : ℕ) → has_port others k ≡ (has_port connected k && not (k == port))) →
    on_ports others s ≡ on_others port s views
on-others views port connected others s few is without = others-sent views port others s few (λ k. without k ∙ ap (λ b. b && not (k == port)) (is k))

-- after nothing else
sent-alone :
    (old new sent all : List PortSignal) → new ≡ old ++ sent → old ≡ [] → sent ≡ all → new ≡ all
sent-alone old new sent all is empty same = is ∙ ap (λ xs. xs ++ sent) empty ∙ same

pub push_on-requires : goal.push_on-requires
push_on-requires c =
    let same = on-others c.args.s.now.view.ports c.args.port c.connected.result c.without-others.result (signal.Packet c.args.quad) c.connected.ensures.few c.connected.ensures.ports c.without-others.ensures in
    omega (arith, ap length same, ap length c.requires, few-sends_from 0 (λ k. not (k == c.args.port)) (λ p. signal.Packet c.args.quad) c.args.s.now.view.ports, c.connected.ensures.few)

pub returns-then-len-lt252-clause-sends : goal.returns-then-len-lt252-clause-sends
returns-then-len-lt252-clause-sends c = sent-alone c.args.out.now c.push_on.new.self _ _ c.push_on.ensures c.requires (on-others c.args.s.now.view.ports c.args.port c.connected.result c.without-others.result (signal.Packet c.args.quad) c.connected.ensures.few c.connected.ensures.ports c.without-others.ensures)

pub returns-else-len-lt252-clause-sends : goal.returns-else-len-lt252-clause-sends
returns-else-len-lt252-clause-sends c = sent-alone c.args.out.now c.push_on.new.self _ _ c.push_on.ensures c.requires (on-others c.args.s.now.view.ports c.args.port c.connected.result c.without-others.result (signal.Packet c.args.quad) c.connected.ensures.few c.connected.ensures.ports c.without-others.ensures)
