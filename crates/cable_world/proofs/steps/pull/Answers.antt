use Rattle.std.proofs.Common.{◌∙◌, false, ap}
use Rattle.port_state.specs.declared.signal.Level.TheVariants as level
use Rattle.port_state.specs.Entry.{with_port}
use Rattle.cable_world.specs.Turn.{wires_after_sends}
use Rattle.cable_world.proofs.running.Stepping.{reset-seen}
use Rattle.cable_world.proofs.steps.pull.Goals as goal

pub returns-clause-sent : goal.returns-clause-sent
returns-clause-sent g c =
    c.in_ok-send_all.ensures.sent ∙ ap (λ o. wires_after_sends 0 o c.args.wires.now) (c.as_slice.ensures.value ∙ c.pulled_into.ensures.sends)

pub returns-clause-changed : goal.returns-clause-changed
returns-clause-changed g c =
    let n = g.M.PortMachine.record_of c.args.machine.now in
    reset-seen n (g.M.PortMachine.record_of c.pulled_into.new.self) (with_port c.args.port (λ p. record p { connected = false; shown = level.Idle }) n.state) c.list-before.result.now c.list.result.now
    c.last_change.result c.args.last c.args.turns c.list-before.ensures c.list.ensures c.pulled_into.ensures.node c.last_change.ensures
