use Rattle.std.proofs.Common.{arith}
use Rattle.std.proofs.lemmas.Grind.{common_steps}
use Rattle.port_state.proofs.Lemmas.{ports-from}
use Rattle.tree_identify.proofs.tree_start.send_notices.Goals.{then-port, else-port}
use Rattle.tree_identify.proofs.tree_start.send_notices.Goals as goal

pub loop-at-preserved : goal.loop-at-preserved
loop-at-preserved c =
    let rest = ports-from c.args.ports.now c.loop-at.at c.get-port.result c.get-port.ensures in
    elim c.if-port.branch [
      | then-port w ↦ grind (arith, common_steps, rest)
      | else-port w ↦ grind (arith, common_steps, rest)
    ]
