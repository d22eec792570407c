use Rattle.std.proofs.Common.{subst}
use Rattle.port_state.specs.Idle.{IsIdleFor}
use Rattle.phy_machine.specs.declared.any.AnyMachine.{AnyMachine}
use Rattle.phy_machine.specs.Any.{any_node}
use Rattle.phy_machine.proofs.any.AnyMachinePortMachine.pass.Goals as goal

pub pass-requires : goal.pass-requires
pass-requires c = record {
  idle = subst (λ (m : AnyMachine). IsIdleFor c.args.turns (any_node m)) c.in-Field.is c.requires.idle;
}

pub pass-requires-in-Packed : goal.pass-requires-in-Packed
pass-requires-in-Packed c = record {
  idle = subst (λ (m : AnyMachine). IsIdleFor c.args.turns (any_node m)) c.in-Packed.is c.requires.idle;
}
