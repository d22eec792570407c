use Rattle.std.proofs.Common.{◌∙◌, length, ap, sym}
use Rattle.port_state.specs.PortSet.{all_sent}
use Rattle.cable_world.specs.Turn.{wires_after_sends}
use Rattle.cable_world.proofs.running.Rows.{wires-length, sent-is}
use Rattle.cable_world.proofs.rows.WireRow.send_all.Goals as goal

pub returns-clause-sent : goal.returns-clause-sent
returns-clause-sent c =
    let row = c.self.inside in
    sent-is row.sent.items c.add_all.new.sent.items (all_sent c.args.sends.now) c.in_ok-add_all.ensures.sent 0 row.held.items
    ∙ ap (wires_after_sends 0 (all_sent c.args.sends.now)) c.self.view_is

pub returns-clause-ports : goal.returns-clause-ports
returns-clause-ports c =
    let row = c.self.inside in
    wires-length 0 c.add_all.new.sent.items row.held.items ∙ sym (wires-length 0 row.sent.items row.held.items) ∙ ap length c.self.view_is

pub returns-in_err-add_all-clause-ports : goal.returns-in_err-add_all-clause-ports
returns-in_err-add_all-clause-ports c =
    let row = c.self.inside in
    wires-length 0 c.add_all.new.sent.items row.held.items ∙ sym (wires-length 0 row.sent.items row.held.items) ∙ ap length c.self.view_is
