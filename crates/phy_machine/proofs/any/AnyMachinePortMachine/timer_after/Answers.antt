use Rattle.std.proofs.Common.{subst}
use Rattle.port_state.specs.Idle.{IsIdleFor}
use Rattle.phy_machine.specs.declared.any.AnyMachine.{AnyMachine}
use Rattle.phy_machine.specs.Any.{any_node}
use Rattle.phy_machine.proofs.any.AnyMachinePortMachine.timer_after.Goals as goal

pub timer_after-requires : goal.timer_after-requires
timer_after-requires c = record {
  idle = subst (λ (m : AnyMachine). IsIdleFor c.args.turns (any_node m)) c.in-Field.is c.requires.idle;
}

pub timer_after-requires-in-Packed : goal.timer_after-requires-in-Packed
timer_after-requires-in-Packed c = record {
  idle = subst (λ (m : AnyMachine). IsIdleFor c.args.turns (any_node m)) c.in-Packed.is c.requires.idle;
}
