use Rattle.std.proofs.Common.{◌≡◌, ◌+◌, ◌-◌, subst, sym, ◌∙◌, arith}
use Rattle.root_plan.specs.codings.Climb.{BestFrom}
use Rattle.root_plan.proofs.Choosing.{best_start, best_skip, best_stays, best_is, candidate_within, candidate, no_candidate}
use Rattle.root_plan.proofs.choice.best_candidate.Goals as goal

pub loop-id-init : goal.loop-id-init
loop-id-init c = best_start c.args.tree.now c.args.manager c.reach.result c.requires c.reach.ensures

pub node-requires : goal.node-requires
node-requires c =
    let above = c.loop-id.invariant.above in
    omega (arith, above, candidate_within c.args.tree.now c.loop-id.best.id c.loop-id.invariant.candidate)

pub reach-reach-requires : goal.reach-reach-requires
reach-reach-requires c =
    let above = c.loop-id.invariant.above in
    omega (arith, above, candidate_within c.args.tree.now c.loop-id.best.id c.loop-id.invariant.candidate)

pub loop-id-preserved-then-reach-best : goal.loop-id-preserved-then-reach-best
loop-id-preserved-then-reach-best c =
    let one : c.loop-id.id ≡ c.loop-id.id - 1 + 1 = omega (arith, c.loop-id-test.true) in
    best_is c.args.tree.now (c.loop-id.id - 1) c.loop-id.best.id c.loop-id.best.reach c.reach-reach.result (candidate c.args.tree.now (c.loop-id.id - 1) c.node.result.now c.node.ensures (sym c.is_eligible.ensures ∙ c.if-is_eligible.true)) c.reach-reach.ensures (omega (arith, c.if-reach-best.true)) (subst (λ x. BestFrom c.args.tree.now x c.loop-id.best.id c.loop-id.best.reach) one c.loop-id.invariant)

pub loop-id-preserved-else-reach-best : goal.loop-id-preserved-else-reach-best
loop-id-preserved-else-reach-best c =
    let one : c.loop-id.id ≡ c.loop-id.id - 1 + 1 = omega (arith, c.loop-id-test.true) in
    best_stays c.args.tree.now (c.loop-id.id - 1) c.loop-id.best.id c.loop-id.best.reach c.reach-reach.result c.reach-reach.ensures (omega (arith, c.if-reach-best.false)) (subst (λ x. BestFrom c.args.tree.now x c.loop-id.best.id c.loop-id.best.reach) one c.loop-id.invariant)

pub loop-id-preserved : goal.loop-id-preserved
loop-id-preserved c =
    let one : c.loop-id.id ≡ c.loop-id.id - 1 + 1 = omega (arith, c.loop-id-test.true) in
    best_skip c.args.tree.now (c.loop-id.id - 1) c.loop-id.best.id c.loop-id.best.reach (no_candidate c.args.tree.now (c.loop-id.id - 1) c.node.result.now c.node.ensures (sym c.is_eligible.ensures ∙ c.if-is_eligible.false)) (subst (λ x. BestFrom c.args.tree.now x c.loop-id.best.id c.loop-id.best.reach) one c.loop-id.invariant)

pub returns : goal.returns
returns c = subst (λ x. BestFrom c.args.tree.now x c.loop-id.best.id c.loop-id.best.reach) (omega (arith, c.loop-id-test.false)) c.loop-id.invariant
