use Rattle.std.proofs.Common.{sym, ap, ◌∙◌}
use Rattle.port_state.specs.Idle.{with_later_timer}
use Rattle.port_state.specs.Machine.{PortNode}
use Rattle.port_state.proofs.Lemmas.{after-idle_ticks}
use Rattle.phy_machine.specs.Field.{field_node}
use Rattle.phy_machine.proofs.field.FieldMachinePortMachine.timer_after.Goals as goal

pub returns : goal.returns
returns c =
    c.later_timer.ensures.timer ∙ ap (λ k. (with_later_timer k c.args.self.now.state).view.timer) c.ticks_in.ensures
    ∙ sym (ap (λ (n : PortNode). n.state.view.timer) (after-idle_ticks c.args.turns (field_node c.args.self.now) c.later_timer.ensures.fits c.requires.idle))
