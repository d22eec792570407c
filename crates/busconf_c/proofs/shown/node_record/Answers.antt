use Rattle.c_records.proofs.Lemmas.{node_shown}
use Rattle.busconf_c.proofs.shown.node_record.Goals as goal

pub returns : goal.returns
returns c = node_shown c.args.tree.now c.args.id c.node.result.now c.slot_records.result c.said.result c.node.ensures c.said.ensures c.slot_records.ensures
