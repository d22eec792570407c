use Rattle.std.proofs.Common.{◌<◌, arith}
use Rattle.phy_machine.specs.Field.{field_node}
use Rattle.phy_machine.proofs.SlowTurns.{ticks-most}
use Rattle.phy_machine.proofs.IdleTurns.{idle-turns, idle-ends}
use Rattle.phy_machine.proofs.field.FieldMachinePortMachine.idle_for.Goals as goal

pub returns-clause-idle : goal.returns-clause-idle
returns-clause-idle c =
    idle-turns c.turns_before.result c.idle_for.result (field_node c.args.self.now) c.idle_for.ensures.fits c.turns_before.ensures.ticks c.idle_for.ensures.idle

pub returns-clause-greatest : goal.returns-clause-greatest
returns-clause-greatest c few =
    let b = c.turns_before.ensures.before few in
    let most = ticks-most c.turns_before.result (field_node c.args.self.now).clock in
    idle-ends c.turns_before.result c.idle_for.result (field_node c.args.self.now) c.idle_for.ensures.fits b.0 b.1 (omega (arith, b.0, most, few)) c.idle_for.ensures.greatest
    (returns-clause-idle c)
