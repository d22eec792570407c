use Rattle.std.proofs.Common.{refl, sym, subst}
use Rattle.port_state.specs.Machine.{PortNode}
use Rattle.port_state.specs.Valid.{IsValid}
use Rattle.cable_world.specs.Times.{KeepsTime, longest_in_range}
use Rattle.cable_world.specs.World.{IsNodeAtPowerOn}
use Rattle.busconf_bench.proofs.worlds.powered_on.Goals as goal

pub returns-clause-node : goal.returns-clause-node
returns-clause-node c =
    let e = c.new.ensures in
    subst (λ (n : PortNode). IsNodeAtPowerOn 4 n.state) (sym e) (record {
      is = refl;
      valid = subst (λ (n : PortNode). IsValid n.state) e c.new.result.valid;
      timing = c.spec.ensures.timing;
    })

pub returns-clause-clock : goal.returns-clause-clock
returns-clause-clock c =
    subst (λ (n : PortNode). KeepsTime (longest_in_range 4) n.state.timing n.clock) (sym c.new.ensures) tt
