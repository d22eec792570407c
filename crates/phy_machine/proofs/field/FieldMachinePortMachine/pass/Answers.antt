use Rattle.std.proofs.Common.{◌≡◌, refl, sym, ap, ◌∙◌}
use Rattle.port_state.specs.declared.states.NodeState.{NodeState}
use Rattle.port_state.specs.Clock.{Clock, ticks_in, clock_on}
use Rattle.port_state.specs.Idle.{with_later_timer}
use Rattle.port_state.specs.Machine.{PortNode}
use Rattle.port_state.proofs.Lemmas.{after-idle_ticks}
use Rattle.phy_machine.specs.Clock.{clock_in}
use Rattle.phy_machine.specs.Field.{field_node}
use Rattle.phy_machine.proofs.field.FieldMachinePortMachine.pass.Goals as goal

pub returns : goal.returns
returns c =
    let self = c.args.self.now in
    let node : NodeState → Clock → PortNode = λ x k. record { state = x; coins = self.coins; clock = k } in
    ap (λ x. node x (clock_in c.go_on-ticks.new.self)) (c.pass.ensures.state ∙ ap (λ k. with_later_timer k self.state) c.go_on-ticks.ensures.ticks)
    ∙ ap (node (with_later_timer (ticks_in c.args.turns (clock_in self.clock)) self.state)) c.go_on-ticks.ensures.clock
    ∙ sym (after-idle_ticks c.args.turns (field_node self) c.pass.ensures.fits c.requires.idle)
