use Rattle.phy_machine.proofs.IdleFor.{idle_in-most, rests-for, stirs-after}
use Rattle.phy_machine.proofs.idle.idle_for.Goals as goal

pub returns-clause-most : goal.returns-clause-most
returns-clause-most c = rw c.idle_in.ensures (idle_in-most c.args.s.now c.read_times.ensures)

pub returns-clause-idle : goal.returns-clause-idle
returns-clause-idle c = rw c.idle_in.ensures (rests-for c.args.s.now c.read_times.ensures)

pub returns-clause-greatest : goal.returns-clause-greatest
returns-clause-greatest c = rw c.idle_in.ensures (stirs-after c.args.s.now c.read_times.ensures)

pub returns-clause-fits : goal.returns-clause-fits
returns-clause-fits c = c.read_times.ensures.timer
