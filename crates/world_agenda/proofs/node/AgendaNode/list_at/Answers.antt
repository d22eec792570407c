use Rattle.std.proofs.Common.{◌∙◌, ap, sym}
use Rattle.world_agenda.proofs.Late.{keeps-late}
use Rattle.world_agenda.proofs.node.AgendaNode.list_at.Goals as goal

pub returns : goal.returns
returns g c =
    let self = c.args.self.now in
    let n = g.M.PortMachine.record_of self.machine in
    c.list.ensures ∙ sym (ap (λ s. s.list.items) (keeps-late c.args.turns self.clock self.idle n c.requires self.rests))
