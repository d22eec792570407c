use Rattle.std.proofs.Common.{◌≡◌, length, subst, arith}
use Rattle.topology_stack.specs.Tree.{walk}
use Rattle.speed_map.specs.codings.Sweep.{Rising}
use Rattle.speed_map.proofs.Steps.{falling_start}
use Rattle.speed_map.proofs.sweeps.fill.Goals as goal

pub loop-id-2-init : goal.loop-id-2-init
loop-id-2-init c =
    let all : c.loop-id.id ≡ length (walk c.args.tree.now) = omega arith in
    (falling_start c.args.tree.now c.loop-id.rows c.root-id.result c.root-id.ensures (subst (Rising c.args.tree.now c.loop-id.rows) all c.loop-id.invariant.0), omega arith)
