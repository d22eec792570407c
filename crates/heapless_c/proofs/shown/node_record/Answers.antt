use Rattle.c_records.proofs.Lemmas.{node_shown}
use Rattle.heapless_c.proofs.shown.node_record.Goals as goal

pub returns : goal.returns
returns c = λ t p. node_shown t c.args.id c.args.node.now c.slot_records.result c.said.result p.node c.said.ensures (c.slot_records.ensures t c.args.id p)
