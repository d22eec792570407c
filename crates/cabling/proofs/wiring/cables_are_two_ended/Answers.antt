use Rattle.cabling.proofs.wiring.cables_are_two_ended.Goals as goal

pub returns : goal.returns
returns c = rw (← c.c.view_is) c.c.invariant
