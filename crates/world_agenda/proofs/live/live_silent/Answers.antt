use Rattle.world_agenda.proofs.LiveRows.{all-silent}
use Rattle.world_agenda.proofs.live.live_silent.Goals as goal

pub returns : goal.returns
returns c = λ yes. all-silent c.args.wires.now (λ k. c.loop-node.invariant.silent k (c.in_default.ensures.none k))
