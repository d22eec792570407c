use Rattle.std.proofs.Common.{◌≡◌, ◌+◌, subst, sym, arith}
use Rattle.std.specs.Prelude.{max}
use Rattle.std.proofs.lemmas.Grind.{common_steps}
use Rattle.root_plan.specs.codings.Climb.{ReachSoFar}
use Rattle.root_plan.proofs.Climbing.{reach_start, reach_more, reach_done}
use Rattle.root_plan.proofs.reach.reach.Goals as goal

pub loop-other-init : goal.loop-other-init
loop-other-init c = reach_start c.args.tree.now c.args.id c.requires

pub loop-other-preserved : goal.loop-other-preserved
loop-other-preserved c =
    let is : c.max-reach.result ≡ max c.loop-other.reach c.distance.result = grind (arith, common_steps, c.max-reach.ensures) in
    subst (ReachSoFar c.args.tree.now c.args.id (c.loop-other.other + 1)) (sym is) (reach_more c.args.tree.now c.args.id c.loop-other.other c.loop-other.reach c.distance.result c.len-other-end.ensures.valid c.requires (omega (arith, c.loop-other-test.true, c.len-other-end.ensures.value)) c.loop-other.invariant c.distance.ensures)

pub returns : goal.returns
returns c = reach_done c.args.tree.now c.args.id c.loop-other.other c.loop-other.reach c.len-other-end.ensures.valid c.requires (omega (arith, c.loop-other-test.false, c.len-other-end.ensures.value)) c.loop-other.invariant
