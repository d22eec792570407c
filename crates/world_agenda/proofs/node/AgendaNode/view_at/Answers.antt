use Rattle.std.proofs.Common.{◌≡◌, ◌-◌, ◌∙◌, ap, sym}
use Rattle.port_state.specs.declared.view.View.{View}
use Rattle.port_state.specs.Idle.{after_ticks}
use Rattle.port_state.specs.Machine.{PortNode}
use Rattle.world_agenda.proofs.Late.{keeps-late, view-late}
use Rattle.world_agenda.proofs.node.AgendaNode.view_at.Goals as goal

pub returns : goal.returns
returns g c =
    let self = c.args.self.now in
    let n : PortNode = g.M.PortMachine.record_of self.machine in
    let late = keeps-late c.args.turns self.clock self.idle n c.requires self.rests in
    ap (λ (v : View). record v { timer = c.timer_after.result }) c.view-view.ensures
    ∙ ap (λ t. record n.state.view { timer = t }) (c.timer_after.ensures ∙ ap (λ k. (after_ticks k n).state.view.timer) c.saturating_sub.ensures)
    ∙ view-late c.args.turns self.clock n late
