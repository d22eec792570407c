use Rattle.std.proofs.Common.{refl, sym, subst}
use Rattle.port_state.specs.Machine.{PortNode}
use Rattle.port_state.specs.Valid.{IsValid}
use Rattle.phy_machine.specs.Any.{any_valid}
use Rattle.cable_world.specs.Times.{KeepsTime, longest_in_range}
use Rattle.cable_world.specs.World.{IsNodeAtPowerOn}
use Rattle.bus_tests.proofs.nodes.powered_on.Goals as goal

pub returns-clause-node : goal.returns-clause-node
returns-clause-node c =
    let e = c.machine.ensures in
    subst (λ (n : PortNode). IsNodeAtPowerOn c.args.d n.state) (sym e) (record {
      is = refl;
      valid = subst (λ (n : PortNode). IsValid n.state) e (any_valid c.machine.result);
      timing = c.spec.ensures.timing;
    })

pub returns-clause-clock : goal.returns-clause-clock
returns-clause-clock c =
    subst (λ (n : PortNode). KeepsTime (longest_in_range c.args.d) n.state.timing n.clock) (sym c.machine.ensures) tt
