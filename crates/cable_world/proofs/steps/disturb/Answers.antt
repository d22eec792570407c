use Rattle.std.proofs.Common.{◌∙◌, ap}
use Rattle.cable_world.specs.Turn.{wires_after_sends}
use Rattle.cable_world.proofs.running.Stepping.{reset-seen}
use Rattle.cable_world.proofs.steps.disturb.Goals as goal

pub returns-clause-sent : goal.returns-clause-sent
returns-clause-sent g c =
    c.in_ok-send_all.ensures.sent ∙ ap (λ o. wires_after_sends 0 o c.args.wires.now) (c.as_slice.ensures.value ∙ c.disturb_into.ensures.sends)

pub returns-clause-changed : goal.returns-clause-changed
returns-clause-changed g c =
    let n = g.M.PortMachine.record_of c.args.machine.now in
    reset-seen n (g.M.PortMachine.record_of c.disturb_into.new.self) n.state c.list-before.result.now c.list.result.now
    c.last_change.result c.args.last c.args.turns c.list-before.ensures c.list.ensures c.disturb_into.ensures.node c.last_change.ensures
