use Rattle.std.proofs.Common.{◌∙◌, ap, sym}
use Rattle.port_state.specs.Group.{shown_attrs}
use Rattle.world_agenda.proofs.Late.{keeps-late}
use Rattle.world_agenda.proofs.node.AgendaNode.attrs_at.Goals as goal

pub returns : goal.returns
returns g c =
    let self = c.args.self.now in
    let n = g.M.PortMachine.record_of self.machine in
    c.attrs.ensures.value ∙ sym (ap shown_attrs (keeps-late c.args.turns self.clock self.idle n c.requires self.rests))
