use Rattle.std.proofs.Common.{arith}
use Rattle.std.proofs.lemmas.Grind.{common_steps}
use Rattle.port_state.proofs.Lemmas.{ports-from}
use Rattle.script_trace.proofs.node.put_children.Goals as goal

pub loop-at-preserved : goal.loop-at-preserved
loop-at-preserved c =
    let rest = ports-from c.args.after.now c.loop-at.at c.get.result c.get.ensures in
    grind (arith, common_steps, rest)
