use Rattle.cabling.proofs.Table.{one-table}
use Rattle.cabling.proofs.laws.cablings_are_their_cables.Goals as goal

pub returns : goal.returns
returns c = λ h. one-table c.args.c.now c.args.d.now c.cables_are_two_ended.ensures c.cables_are_two_ended-2.ensures h
