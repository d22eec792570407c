use Rattle.std.proofs.Common.{sym, subst}
use Rattle.port_state.specs.Valid.{IsValid}
use Rattle.port_state.proofs.Lemmas.{valid-power_on}
use Rattle.phy_machine.proofs.field.FieldMachine.new.Goals as goal

pub invariant_of-result : goal.invariant_of-result
invariant_of-result c =
    let spec = c.args.spec in
    record {
      valid = subst IsValid (sym c.power_on.ensures)
          (valid-power_on spec.ports spec.attrs spec.force spec.timing c.requires.some_port c.requires.few_ports c.requires.attrs c.requires.no_delay);
    }
